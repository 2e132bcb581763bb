-- What a new plan changes for the live records of an archive. Days are counted from 1970-01-01.
use Rattle.std.specs.Prelude.{◌≡◌, ℕ, ◌-◌, ◌^◌, ◌||◌, ◌==◌, nat_lt, min, not, Bool, true, false, if◌then◌else◌, ℤ, pos}
use Rattle.std.specs.Prelude.{List, [], ◌∷◌, filter, map, count_by, codes, option_map, Option, Some, None, Vec}
use Rattle.std.proofs.Common.{refl, sym, ap, subst, ◌∙◌, ◌++◌}
use Rattle.std.proofs.lemmas.List.{map-append}
use Rattle.std.proofs.lemmas.List.Elements.{filter-append}
use Rattle.std.specs.Ordering.{int_eq}
use Rattle.std.specs.Str.{bytes_eq}
use Rattle.std.specs.declared.alloc.Global.{Global}
use Rattle.jiff.specs.Words.{epoch_day}
use Rattle.class_plan.specs.Plans.{Listing}
use Rattle.cli_texts.specs.DueDays.{due_by_plan}
use Rattle.cli_texts.specs.Words.{name, number, words}
use Rattle.record_archive.specs.Archive.{Archive}
use Rattle.record_choice.specs.Choices.{every_live_record}
use Rattle.record_choice.specs.Entries.{RecordEntry, entry_view}
use Rattle.record_choice.specs.declared.entry.RecordEntry as own
use Rattle.cli_console.specs.Counts.{counted}
use Rattle.cli_console.specs.Finds.{entries_of}
use Rattle.cli_changes.specs.declared.due_today.DueToday.{DueToday}
use Rattle.cli_changes.specs.declared.plan_changes.Changes.{Changes}
use Rattle.cli_changes.specs.declared.plan_changes.Changing.{Changing}
use Rattle.cli_changes.specs.declared.plan_changes.PlanChanges.{PlanChanges}
use Rattle.cli_changes.specs.DueToday.{compared, due_today_lines, is_due_in, may_go_in, with_entry}

-- the same due day, or none
abbrev pub is_same_due : Option ℤ → Option ℤ → Bool
is_same_due (Some one) (Some other) = int_eq one other
is_same_due (Some one) None = false
is_same_due None (Some other) = false
is_same_due None None = true

-- A DUE DATE MOVES where that by the new plan is another one
abbrev pub moves : (new : Listing) → RecordEntry → Bool
moves new e = not (is_same_due (option_map pos (due_by_plan new e.path e.day)) e.due)

-- A PLAN CHANGES SOMETHING: a due date moves, or other numbers of records are due or may be destroyed
abbrev pub is_any : Changes → Bool
is_any c = nat_lt 0 c.moved || (not (c.before.all == c.after.all) || not (c.before.destroyable == c.after.destroyable))

-- ---- the figures

-- how many of some records, up to the greatest number of 64 bits
abbrev pub how_many : (RecordEntry → Bool) → List RecordEntry → ℕ
how_many is_so es = min (count_by is_so es) (2 ^ 64 - 1)

-- how many of them are due by a day, and may be destroyed then, each by the schedule of its class
abbrev pub due_today : Listing → (today : ℤ) → List RecordEntry → DueToday
due_today plan today es = record {
  all = how_many (λ (e : RecordEntry). is_due_in plan e.path today e) es;
  destroyable = how_many (λ (e : RecordEntry). may_go_in plan e.path today e) es;
}

-- THE FIGURES of some records: how many due dates move, and how many are due at once by the present plan and by the new one
abbrev pub figures : (present new : Listing) → (today : ℤ) → List RecordEntry → Changes
figures present new today es = record {
  moved = how_many (moves new) es;
  before = due_today present today es;
  after = due_today new today es;
}

abbrev pub no_changes : Changes
no_changes = record {
  moved = 0;
  before = record { all = 0; destroyable = 0 };
  after = record { all = 0; destroyable = 0 };
}

-- what is noted of a class by its path; nothing of one that has no record
abbrev pub changes_in : (path : List ℕ) → List (Vec ℕ Global × Changes) → Changes
changes_in path [] = no_changes
changes_in path (e ∷ es) = if bytes_eq path e.0.items then e.1 else changes_in path es

abbrev pub in_class : (path : List ℕ) → List RecordEntry → List RecordEntry
in_class path es = filter (λ (e : RecordEntry). bytes_eq path e.path) es

-- WHAT A PLAN CHANGES for some records: in all, and for those of each class
pub record AreChanges (present new : Listing) (today : ℤ) (es : List RecordEntry) (changes : PlanChanges) : Type 0 where
  pub all : changes.all ≡ figures present new today es
  pub by_class : (path : List ℕ) → changes_in path changes.by_class.entries ≡ figures present new today (in_class path es)

-- the live records of an archive
abbrev pub live_entries : Archive → List RecordEntry
live_entries a = entries_of every_live_record a

-- ---- as it is told

unfoldable pub moved_line : (moved : ℕ) → List ℕ
moved_line moved = words (codes "due dates that move: ") ++ number moved ++ 10 ∷ []

-- what changes for all records, in three lines
abbrev pub all_lines : Changes → List ℕ
all_lines c = moved_line c.moved ++ due_today_lines c.before c.after

-- how many due dates of a class move
unfoldable pub class_moved : (path : List ℕ) → (moved : ℕ) → List ℕ
class_moved path moved = words (codes "class ") ++ name path ++ words (codes ": due dates that move ") ++ number moved

-- WHAT CHANGES FOR THE RECORDS OF A CLASS, in a line
abbrev pub class_line : (path : List ℕ) → Changes → List ℕ
class_line path c =
    class_moved path c.moved ++ compared (codes "; due at once ") c.after.all c.before.all
    ++ compared (codes "; may be destroyed at once ") c.after.destroyable c.before.destroyable ++ 10 ∷ []

-- ---- one record after the other

abbrev pub with_change : (present new : Listing) → (today : ℤ) → RecordEntry → Changes → Changes
with_change present new today e c = record {
  moved = counted (moves new e) c.moved;
  before = with_entry present e.path today e c.before;
  after = with_entry new e.path today e c.after;
}

abbrev pub with_changes : (present new : Listing) → (today : ℤ) → List RecordEntry → Changes → Changes
with_changes present new today [] c = c
with_changes present new today (e ∷ es) c = with_changes present new today es (with_change present new today e c)

-- some records more are counted, in all and in their classes
pub record CountAlso (present new : Listing) (today : ℤ) (es : List RecordEntry) (was is : PlanChanges) : Type 0 where
  pub all : is.all ≡ with_changes present new today es was.all
  pub by_class : (path : List ℕ)
      → changes_in path is.by_class.entries ≡ with_changes present new today (in_class path es) (changes_in path was.by_class.entries)

-- the records that are taken are counted, for the same plan and day
pub record Takes (a : Archive) (was is : Changing) (es : List own.RecordEntry) : Type 0 where
  pub plan : is.plan.now ≡ was.plan.now
  pub today : is.today ≡ was.today
  pub counted : CountAlso a.plan was.plan.now (epoch_day was.today) (map entry_view es) was.changes is.changes

-- ---- one list after another

module _ (present new : Listing) (today : ℤ) where
  with_changes-append : (es fs : List RecordEntry) (c : Changes)
      → with_changes present new today (es ++ fs) c ≡ with_changes present new today fs (with_changes present new today es c)
  with_changes-append [] fs c = refl
  with_changes-append (e ∷ es) fs c = with_changes-append es fs (with_change present new today e c)

  count_none : (c : PlanChanges) → CountAlso present new today [] c c
  count_none c = record { all = refl; by_class = λ path. refl }

  count_more : (x y z : PlanChanges) (es fs : List RecordEntry) → CountAlso present new today es x y → CountAlso present new today fs y z
      → CountAlso present new today (es ++ fs) x z
  count_more x y z es fs one other = record {
    all = other.all ∙ ap (with_changes present new today fs) one.all ∙ sym (with_changes-append es fs x.all);
    by_class = λ path.
        let parts = filter-append (λ (e : RecordEntry). bytes_eq path e.path) es fs in
        other.by_class path ∙ ap (with_changes present new today (in_class path fs)) (one.by_class path)
        ∙ sym (ap (λ (l : List RecordEntry). with_changes present new today l (changes_in path x.by_class.entries)) parts
        ∙ with_changes-append (in_class path es) (in_class path fs) (changes_in path x.by_class.entries));
  }

pub none_taken : (r : Changing) (a : Archive) → Takes a r r []
none_taken r a = record { plan = refl; today = refl; counted = count_none a.plan r.plan.now (epoch_day r.today) r.changes }

pub more_taken : (x y z : Changing) (a : Archive) (es fs : List own.RecordEntry) → Takes a x y es → Takes a y z fs → Takes a x z (es ++ fs)
more_taken x y z a es fs one other =
    let plan = one.plan in
    let day = one.today in
    let second = subst (λ p. CountAlso a.plan p (epoch_day x.today) (map entry_view fs) y.changes z.changes) plan
    (subst (λ d. CountAlso a.plan y.plan.now (epoch_day d) (map entry_view fs) y.changes z.changes) day other.counted) in
    let both = count_more a.plan x.plan.now (epoch_day x.today) x.changes y.changes z.changes (map entry_view es) (map entry_view fs)
    one.counted second in
    record {
      plan = other.plan ∙ one.plan;
      today = other.today ∙ one.today;
      counted = subst (λ l. CountAlso a.plan x.plan.now (epoch_day x.today) l x.changes z.changes) (sym (map-append entry_view es fs)) both;
    }
