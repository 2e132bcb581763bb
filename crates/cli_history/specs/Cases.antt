-- Cases: what is kept by the hold of one name, as the events of a history tell it.
use Rattle.std.specs.Prelude.{ℕ, zero, suc, Bool, true, false, List, if◌then◌else◌, Option, Some, None, option_map}
use Rattle.std.specs.Str.{bytes_eq}
use Rattle.record_history.specs.Events.{Deed, Held, Released, FoundHold, FoundPlan}
use Rattle.cli_history.specs.declared.cases.Told.{Told}

-- a case: how many records it has beside one, the number of the event by which it began, whether that only found it, and whether
-- the history has stated anew what is there since, and not this case yet
pub record Case : Type 0 where
  pub others : ℕ
  pub event : ℕ
  pub found : Bool
  pub is_open : Bool

abbrev pub told_view : Told → Case
told_view t = record { others = t.others; event = t.event; found = t.is_found; is_open = t.is_open }

-- a case with one record
abbrev pub begun : (event : ℕ) → (found : Bool) → Case
begun event found = record { others = 0; event = event; found = found; is_open = false }

abbrev pub joined : Case → Case
joined c = record c { others = suc c.others }

-- another record is placed on the hold: the first one begins the case
abbrev pub placed : (event : ℕ) → Option Case → Case
placed event None = begun event false
placed event (Some c) = if c.is_open then begun event false else joined c

-- a record of the case is found: one that was told of before goes on
abbrev pub found : (event : ℕ) → Option Case → Case
found event None = begun event true
found event (Some c) = if c.is_open then record c { others = 0; is_open = false } else joined c

-- the case once so many records are left, one of which goes
abbrev pub without_one : ℕ → Case → Option Case
without_one zero c = None
without_one (suc n) c = Some (record c { others = n })

-- one record less: the last one ends the case
abbrev pub parted : Option Case → Option Case
parted None = None
parted (Some c) = without_one c.others c

abbrev pub reopened : Case → Case
reopened c = record c { is_open = true }

-- WHAT AN EVENT MAKES OF THE CASE OF A NAME, if there is one
abbrev pub case_after : (name : List ℕ) → (event : ℕ) → Deed → Option Case → Option Case
case_after name event (Held other n) c = if bytes_eq other name then Some (placed event c) else c
case_after name event (FoundHold other n) c = if bytes_eq other name then Some (found event c) else c
case_after name event (Released other n) c = if bytes_eq other name then parted c else c
case_after name event (FoundPlan p) c = option_map reopened c
case_after name event deed c = c
