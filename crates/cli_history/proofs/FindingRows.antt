-- What is unaccepted, on worked rows.
use Rattle.std.proofs.Common.{◌≡◌, ℕ, true, false, List, [], ◌∷◌, codes, refl}
use Rattle.class_plan.specs.declared.schedules.Schedule.TheVariants.{Permanent}
use Rattle.record_history.specs.Events.{Event, Deed, Held, Released, FindingsAccepted, FoundPlan, FoundHold}
use Rattle.cli_history.specs.declared.opening.Purpose.TheVariants.{Keeping, Capturing, Ending}
use Rattle.cli_history.specs.Findings.{is_unaccepted, is_blocked}

abbrev by : List ℕ → Deed → Event
by who deed = record { moment = 0; who = who; deed = deed; notes = []; reason = [] }

abbrev plan : Deed
plan = FoundPlan (record { root = Permanent; rows = [] })

abbrev held : Deed
held = FoundHold (codes "audit") 1

abbrev ann : Deed → Event
ann deed = by (codes "ann") deed

abbrev unknown : Deed → Event
unknown deed = by (codes "unknown") deed

-- the beginning is none, however much was there
begun : is_unaccepted (ann plan ∷ ann held ∷ ann held ∷ []) ≡ false
begun = refl

-- what was found directly behind the beginning is
found_at_once : is_unaccepted (ann plan ∷ ann held ∷ unknown plan ∷ unknown held ∷ []) ≡ true
found_at_once = refl

-- a beginning that nobody has noted is
begun_by_nobody : is_unaccepted (unknown plan ∷ []) ≡ true
begun_by_nobody = refl

accepted : is_unaccepted (ann plan ∷ unknown plan ∷ unknown held ∷ ann FindingsAccepted ∷ ann (Held (codes "x") 1) ∷ []) ≡ false
accepted = refl

-- what is found behind an acceptance is not accepted by it
found_again : is_unaccepted (ann plan ∷ unknown plan ∷ ann FindingsAccepted ∷ unknown plan ∷ []) ≡ true
found_again = refl

-- an older program has noted it under a name
found_by_bea : is_unaccepted (ann plan ∷ by (codes "bea") plan ∷ ann (Released (codes "x") 1) ∷ []) ≡ true
found_by_bea = refl

ending : is_blocked Ending (ann plan ∷ unknown plan ∷ []) ≡ true
ending = refl

keeping : is_blocked Keeping (ann plan ∷ unknown plan ∷ []) ≡ false
keeping = refl

capturing : is_blocked Capturing (ann plan ∷ unknown plan ∷ []) ≡ false
capturing = refl
