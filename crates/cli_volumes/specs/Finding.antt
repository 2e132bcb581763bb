-- How a volume is found for a message, by which calls of a folder.
use Rattle.std.specs.Prelude.{◌≡◌, ℕ, ◌+◌, nat_lt, Bool, true, false, List, [], ◌∷◌, ◌++◌, Option, Some, None, Result, Ok, Err, if◌then◌else◌}
use Rattle.record_volumes.specs.Rolling.{is_full}
use Rattle.cli_volumes.specs.declared.rolling.Seen.{Seen}
use Rattle.cli_volumes.specs.declared.rolling.Step.{Step}
use Rattle.cli_volumes.specs.declared.rolling.Step.TheVariants.{Into, Note, Begin}

-- a call, with whether it succeeded; a look with what it has seen, if it did
pub data Call : Type 0 where
  -- The row of the volumes is looked at.
  look : (seen : Option Seen) → Call
  -- The lock of the folder is taken.
  lock : (done : Bool) → Call
  -- A volume is made, empty, and gets its name.
  begin : (volume : ℕ) (done : Bool) → Call
  -- It is noted that so many volumes were begun.
  note : (volume : ℕ) (done : Bool) → Call
  -- The lock is given back.
  unlock : Call

-- from one moment to another these calls were made, and no others; `made` says which have been made at a moment
abbrev pub Makes : {F C : Type 0} (made : F → List C → Type 0) (before after : F) (calls : List C) → Type 0
Makes {F} {C} made before after calls = (done : List C) → made before done → made after (done ++ calls)

abbrev pub seen_in : {F : Type 0} → Result Seen F → Option Seen
seen_in (Ok seen) = Some seen
seen_in (Err fault) = None

abbrev pub found_in : {F : Type 0} → Result ℕ F → Option ℕ
found_in (Ok volume) = Some volume
found_in (Err fault) = None

-- WHAT IS DONE about what was seen: the next volume is begun where the last is over its size; else the last is noted as begun,
-- where it is not; else nothing
abbrev pub step_of : Seen → Step
step_of s =
    if is_full s.last s.octets s.size then Begin (s.last + 1)
    else if nat_lt s.begun s.last then Note s.last
    else Into s.last

-- the message goes into this volume then
abbrev pub goes_into : Step → ℕ
goes_into (Into v) = v
goes_into (Note v) = v
goes_into (Begin v) = v

-- nothing is to be done
abbrev pub is_settled : Step → Bool
is_settled (Into v) = true
is_settled _ = false

-- a step is done by these calls, up to one that fails: a volume that was begun is noted right after
pub data IsTaken : Step → Option ℕ → List Call → Type 0 where
  nothing : (v : ℕ) → IsTaken (Into v) (Some v) []
  noted : (v : ℕ) → IsTaken (Note v) (Some v) (note v true ∷ [])
  not_noted : (v : ℕ) → IsTaken (Note v) None (note v false ∷ [])
  begun : (v : ℕ) → IsTaken (Begin v) (Some v) (begin v true ∷ note v true ∷ [])
  begun_not_noted : (v : ℕ) → IsTaken (Begin v) None (begin v true ∷ note v false ∷ [])
  not_begun : (v : ℕ) → IsTaken (Begin v) None (begin v false ∷ [])

-- under the lock the row is looked at once more, and what is done is about what was seen then
pub data UnderLock : Option ℕ → List Call → Type 0 where
  blind : UnderLock None (look None ∷ [])
  looked : (s : Seen) (found : Option ℕ) (calls : List Call) → IsTaken (step_of s) found calls → UnderLock found (look (Some s) ∷ calls)

-- the lock is refused, or it is given back in the end whatever fails
pub data WithLock : Option ℕ → List Call → Type 0 where
  refused : WithLock None (lock false ∷ [])
  held : (found : Option ℕ) (calls : List Call) → UnderLock found calls → WithLock found (lock true ∷ (calls ++ unlock ∷ []))

-- A VOLUME IS FOUND FOR A MESSAGE, or none, by these calls: without the lock where nothing is to be done, and else with it
pub data Finds : Option ℕ → List Call → Type 0 where
  unseen : Finds None (look None ∷ [])
  settled : (s : Seen) → is_settled (step_of s) ≡ true → Finds (Some (goes_into (step_of s))) (look (Some s) ∷ [])
  unsettled : (s : Seen) (found : Option ℕ) (calls : List Call) → is_settled (step_of s) ≡ false → WithLock found calls
      → Finds found (look (Some s) ∷ calls)

-- these calls were made, and the volume that is answered is found by them
abbrev pub FindsBy : {F E : Type 0} (made : F → List Call → Type 0) (old new : F) → (Option ℕ → List Call → Type 0) → Result ℕ E
    → Type 0
FindsBy made old new By result = (calls : List Call) × Makes made old new calls × By (found_in result) calls
