-- Which events of a history are asked for.
use Rattle.std.specs.Prelude.{ℕ, pos, ◌==◌, ◌&&◌, ◌||◌, ◌+◌, ◌-◌, ◌/◌, not, nat_le, int_le, min, Bool, true, false, List, length}
use Rattle.std.specs.Prelude.{Option, Some, None, is_none}
use Rattle.std.specs.List.{list_any}
use Rattle.std.specs.Str.{bytes_eq}
use Rattle.jiff.specs.Words.{epoch_day}
use Rattle.choice_words.specs.declared.numbers.TypedNumbers.{TypedNumbers}
use Rattle.choice_words.specs.declared.numbers.TypedNumbers.TheVariants as typed
use Rattle.command_lines.specs.declared.archives.histories.DeedKind.{DeedKind}
use Rattle.command_lines.specs.declared.archives.histories.DeedKind.TheVariants as kind
use Rattle.command_lines.specs.declared.archives.histories.HistoryAsked.{HistoryAsked}
use Rattle.record_history.specs.Events.{Deed, Event, Captured, Held, Released, Refiled, Destroyed, ClassAdded, PlanReplaced, Titled}
use Rattle.record_history.specs.Events.{ReasonsRequired, ReasonsOptional, FindingsAccepted, FoundPlan, FoundMessage, FoundRecord, FoundHold}

-- what is asked of something, if anything is
abbrev pub where_asked : {X : Type 0} → (X → Bool) → Option X → Bool
where_asked f None = true
where_asked f (Some x) = f x

-- THE RECORDS THAT A DEED IS ABOUT, from the first to the last. A message that is found is about the record with its number.
abbrev pub subjects : Deed → Option (ℕ × ℕ)
subjects (Captured first seal day filing paths) = Some (first, min (first + min (length paths - 1) 4294967295) 4294967295)
subjects (Held name n) = Some (n, n)
subjects (Released name n) = Some (n, n)
subjects (Refiled n path) = Some (n, n)
subjects (Destroyed n day schedule) = Some (n, n)
subjects (ClassAdded path) = None
subjects (PlanReplaced plan) = None
subjects (Titled path title basis) = None
subjects ReasonsRequired = None
subjects ReasonsOptional = None
subjects FindingsAccepted = None
subjects (FoundPlan plan) = None
subjects (FoundMessage n seal) = Some (n, n)
subjects (FoundRecord r) = Some (r.number, r.number)
subjects (FoundHold name n) = Some (n, n)

-- words mean one of the numbers from a first to a last
abbrev pub meets : (first last : ℕ) → TypedNumbers → Bool
meets first last (typed.One n) = nat_le first n && nat_le n last
meets first last (typed.Range low high) = nat_le low last && nat_le first high

abbrev pub any_meets : List TypedNumbers → Option (ℕ × ℕ) → Bool
any_meets words None = false
any_meets words (Some s) = list_any (meets s.0 s.1) words

-- a deed is about a record of the numbers that are typed, if there are any
abbrev pub is_about : List TypedNumbers → Deed → Bool
is_about words deed = (length words == 0) || any_meets words (subjects deed)

-- the deed tells of a plan that was found: it begins the archive anew
abbrev pub is_plan_found : Deed → Bool
is_plan_found (FoundPlan plan) = true
is_plan_found deed = false

-- A RECORD THAT IS TYPED IS THERE after a deed, by whether one was there before it
abbrev pub is_there_after : List TypedNumbers → (is_there : Bool) → Deed → Bool
is_there_after words is_there deed = not (is_plan_found deed) && (is_there || any_meets words (subjects deed))

-- the kind of a deed
abbrev pub kind_of : Deed → DeedKind
kind_of (Captured first seal day filing paths) = kind.Captured
kind_of (Held name n) = kind.Held
kind_of (Released name n) = kind.Released
kind_of (Refiled n path) = kind.Refiled
kind_of (Destroyed n day schedule) = kind.Destroyed
kind_of (ClassAdded path) = kind.Added
kind_of (PlanReplaced plan) = kind.Replaced
kind_of (Titled path title basis) = kind.Titled
kind_of ReasonsRequired = kind.Made
kind_of ReasonsOptional = kind.Made
kind_of FindingsAccepted = kind.Accepted
kind_of (FoundPlan plan) = kind.Found
kind_of (FoundMessage n seal) = kind.Found
kind_of (FoundRecord r) = kind.Found
kind_of (FoundHold name n) = kind.Found

abbrev pub is_same_kind : DeedKind → DeedKind → Bool
is_same_kind kind.Captured kind.Captured = true
is_same_kind kind.Held kind.Held = true
is_same_kind kind.Released kind.Released = true
is_same_kind kind.Refiled kind.Refiled = true
is_same_kind kind.Destroyed kind.Destroyed = true
is_same_kind kind.Added kind.Added = true
is_same_kind kind.Replaced kind.Replaced = true
is_same_kind kind.Titled kind.Titled = true
is_same_kind kind.Made kind.Made = true
is_same_kind kind.Found kind.Found = true
is_same_kind kind.Accepted kind.Accepted = true
is_same_kind k l = false

-- AN EVENT IS ASKED FOR, where a record that is typed is there before it, or none. A plan that is found is about each record that is
-- there before it.
abbrev pub asks_for : HistoryAsked → (is_there : Bool) → Event → Bool
asks_for asked is_there e = where_asked (λ day. int_le (epoch_day day) (pos (e.moment / 86400))) asked.since
    && where_asked (λ name. bytes_eq name.now e.who) asked.by && where_asked (λ k. is_same_kind k (kind_of e.deed)) asked.kind
    && (is_about asked.numbers.items e.deed || (is_there && is_plan_found e.deed))

-- EACH EVENT IS ASKED FOR, whatever it is
abbrev pub asks_for_all : HistoryAsked → Bool
asks_for_all asked = (length asked.numbers.items == 0) && is_none asked.since && is_none asked.by && is_none asked.kind
