-- Cases in one store or in several together: what the hold of one name keeps in all of them, and how that is listed.
use Rattle.std.specs.Prelude.{◌≡◌, ℕ, ◌+◌, min, nat_lt, Bool, true, false, List, [], ◌∷◌, ◌++◌, Vec, if◌then◌else◌}
use Rattle.std.specs.Prelude.{Option, Some, None, option_map}
use Rattle.std.specs.declared.alloc.Global.{Global}
use Rattle.std.specs.Ordering.{nat_cmp}
use Rattle.std.specs.Cmp.Lexicographic.{slice_cmp}
use Rattle.std.specs.BTreeMap.{get_by}
use Rattle.std.specs.Str.{bytes_eq}
use Rattle.cli_texts.specs.Cases.{IsCaseLine}
use Rattle.cli_texts.specs.Json.{IsCaseObject}
use Rattle.cli_texts.specs.declared.cases.CaseBeginning.{CaseBeginning}
use Rattle.cli_texts.specs.declared.cases.ListedCase.{ListedCase}
use Rattle.cli_console.specs.Counts.{greatest}
use Rattle.cli_console.specs.Sequences.{AreTexts, between}
use Rattle.cli_console.specs.Sinks.{Writes}
use Rattle.cli_history.specs.Printed.{end_of, head_of}
use Rattle.cli_history.specs.declared.all_cases.AllCases.{AllCases}
use Rattle.cli_history.specs.declared.all_cases.Began.{Began}
use Rattle.cli_history.specs.declared.all_cases.Kept.{Kept}
use Rattle.cli_history.specs.declared.all_cases.NamedCase.{NamedCase}

-- the name of a hold, as cases are kept by it
abbrev pub Name : Type 0
Name = Vec ℕ Global

-- how a case began: by which event of which volume, when, by whom, for what reason, and whether it was only found then
pub record Beginning : Type 0 where
  pub volume : Option ℕ
  pub event : ℕ
  pub moment : ℕ
  pub who : List ℕ
  pub reason : List ℕ
  pub found : Bool

abbrev pub began_view : Began → Beginning
began_view b = record { volume = b.volume; event = b.event; moment = b.moment; who = b.who.items; reason = b.reason.items; found = b.is_found }

abbrev pub listed_view : CaseBeginning → Beginning
listed_view b = record { volume = b.volume; event = b.event; moment = b.moment; who = b.who.now; reason = b.reason.now; found = b.is_found }

-- a case: how many records it has, and how it began, if that is told
pub record WholeCase : Type 0 where
  pub records : ℕ
  pub began : Option Beginning

abbrev pub kept_view : Kept → WholeCase
kept_view k = record { records = k.records; began = option_map began_view k.began }

-- the name of a hold, and its case in a store
abbrev pub named_view : NamedCase → List ℕ × WholeCase
named_view c = (c.name.items, kept_view c.kept)

-- ---- several stores

-- THE FIRST BEGINNING: that of the earlier moment, and of one moment that of the store which comes first
abbrev pub first_began : (one other : Option Beginning) → Option Beginning
first_began None other = other
first_began (Some one) None = Some one
first_began (Some one) (Some other) = if nat_lt other.moment one.moment then Some other else Some one

-- THE SAME CASE IN TWO STORES: the records of both, up to the greatest count, and the first beginning
abbrev pub in_both : (one other : WholeCase) → WholeCase
in_both one other = record { records = min (one.records + other.records) greatest; began = first_began one.began other.began }

-- the case in the stores before, if there is one, and in the next
abbrev pub with_next : Option WholeCase → WholeCase → WholeCase
with_next None next = next
with_next (Some before) next = in_both before next

-- the case of a name, if there is one, with one of the next store, which may be that of another name
abbrev pub with_case : (name : List ℕ) → List ℕ × WholeCase → Option WholeCase → Option WholeCase
with_case name next before = if bytes_eq next.0 name then Some (with_next before next.1) else before

-- THE CASE OF A NAME, if there is one, with those of the next store
abbrev pub with_cases : (name : List ℕ) → List (List ℕ × WholeCase) → Option WholeCase → Option WholeCase
with_cases name [] before = before
with_cases name (c ∷ cs) before = with_cases name cs (with_case name c before)

-- the case of a name
abbrev pub case_named : AllCases → List ℕ → Option WholeCase
case_named all name = option_map kept_view (get_by (λ (n : Name). slice_cmp nat_cmp name n.items) all.cases)

abbrev pub case_of : AllCases → Name → Option WholeCase
case_of all name = case_named all name.items

-- ---- as they are listed

pub record IsListedAs (name : List ℕ) (case : WholeCase) (c : ListedCase) : Type 0 where
  pub name_is : c.name.now ≡ name
  pub records : c.records ≡ case.records
  pub began : option_map listed_view c.beginning ≡ case.began

-- THE TEXT OF THE CASE OF A NAME: its line, or an object of JSON
abbrev pub IsCaseText : (is_json is_first : Bool) → (name : List ℕ) → WholeCase → List ℕ → Type 0
IsCaseText true is_first name case text =
    (c : ListedCase) × IsListedAs name case c × (object : List ℕ) × IsCaseObject c object × (text ≡ between is_first ++ object)
IsCaseText false is_first name case text = (c : ListedCase) × IsListedAs name case c × IsCaseLine c text

-- a case as it is kept under its name
abbrev pub Entry : Type 0
Entry = Name × Kept

abbrev pub IsEntryText : (is_json is_first : Bool) → Entry → List ℕ → Type 0
IsEntryText is_json is_first e text = IsCaseText is_json is_first e.0.items (kept_view e.1) text

-- THE CASES ARE WRITTEN, each once, in this order, between what stands before and after them, and nothing else
abbrev pub WritesCases : {K : Type 0} → (written : K → List ℕ → Type 0) → (is_json : Bool) → List Entry → (before after : K) → Type 0
WritesCases written is_json entries before after =
    (text : List ℕ) × AreTexts (IsEntryText is_json) true entries text
    × Writes written before after (head_of is_json ++ text ++ end_of is_json)
