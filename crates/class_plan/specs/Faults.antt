-- The numbers of faults, and which fault is answered where several hold: the one with the smallest
-- number.
use Rattle.std.specs.Prelude.{◌≡◌, ℕ, ◌<◌, Bool, true, false, if◌then◌else◌, Option, Some, None, Result, Ok, Err}
use Rattle.class_plan.specs.declared.faults.PlanFault.{PlanFault}
use Rattle.class_plan.specs.declared.faults.PlanFault.TheVariants.{NotToml, BadShape, BadPath, ParentMissing, PathTwice, BadSchedule, TooManyClasses, PathDropped, NoMemory}

abbrev pub number_of : PlanFault → ℕ
number_of NotToml = 50
number_of BadShape = 51
number_of BadPath = 52
number_of ParentMissing = 53
number_of PathTwice = 54
number_of BadSchedule = 55
number_of TooManyClasses = 56
number_of PathDropped = 57
number_of NoMemory = 99

-- of the faults that hold, f is the one with the smallest number
pub record IsSmallest (holds : PlanFault → Bool) (f : PlanFault) : Type 0 where
  pub here : holds f ≡ true
  pub none_below : (g : PlanFault) → number_of g < number_of f → holds g ≡ false

-- no fault holds, no memory (99) aside
abbrev pub HoldsNone : (PlanFault → Bool) → Type 0
HoldsNone holds = (g : PlanFault) → number_of g < 99 → holds g ≡ false

-- the first fault that holds, from the smallest number
abbrev pub first_fault : (PlanFault → Bool) → Option PlanFault
first_fault holds =
    if holds NotToml then Some NotToml
    else if holds BadShape then Some BadShape
    else if holds BadPath then Some BadPath
    else if holds ParentMissing then Some ParentMissing
    else if holds PathTwice then Some PathTwice
    else if holds BadSchedule then Some BadSchedule
    else if holds TooManyClasses then Some TooManyClasses
    else if holds PathDropped then Some PathDropped
    else None

-- the answer: the fault, or a where there is none
abbrev pub answer : {A : Type 0} → Option PlanFault → A → Result A PlanFault
answer None a = Ok a
answer (Some f) a = Err f

abbrev pub verdict : {A : Type 0} → (PlanFault → Bool) → A → Result A PlanFault
verdict holds a = answer (first_fault holds) a
