-- How a store in one file becomes the first volume of a new archive, by which calls.
use Rattle.std.specs.Prelude.{Bool, true, false, List, [], ◌∷◌, ◌++◌, Result, is_ok}
use Rattle.cli_volumes.specs.Finding.{Makes}

-- a call, with whether it succeeded
pub data Call : Type 0 where
  -- It is looked whether nothing is at the path of the folder.
  look : (done : Bool) → Call
  -- The file is judged: it has a store, and all of it.
  judge : (done : Bool) → Call
  -- The folder is made.
  make : (done : Bool) → Call
  -- The lock of the folder is taken.
  lock : (done : Bool) → Call
  -- The file is moved to the place of the first volume.
  place : (done : Bool) → Call
  -- It is noted that one volume was begun.
  note : (done : Bool) → Call
  -- The folder is removed.
  discard : Call
  -- The lock is given back.
  unlock : Call

-- the file is moved, and that is noted; where it is not moved, the folder is removed
pub data IsPlaced : Bool → List Call → Type 0 where
  unmoved : IsPlaced false (place false ∷ discard ∷ [])
  moved : (done : Bool) → IsPlaced done (place true ∷ note done ∷ [])

-- the lock is refused, and the folder removed; or it is given back in the end whatever fails
pub data WithLock : Bool → List Call → Type 0 where
  refused : WithLock false (lock false ∷ discard ∷ [])
  held : (done : Bool) (calls : List Call) → IsPlaced done calls → WithLock done (lock true ∷ (calls ++ unlock ∷ []))

-- A STORE BECOMES THE FIRST VOLUME, or it does not, by these calls: nothing is made, moved or removed before the file was judged, and it is
-- moved under the lock alone
pub data Adopts : Bool → List Call → Type 0 where
  there : Adopts false (look false ∷ [])
  bad : Adopts false (look true ∷ judge false ∷ [])
  unmade : Adopts false (look true ∷ judge true ∷ make false ∷ [])
  made_so : (done : Bool) (calls : List Call) → WithLock done calls → Adopts done (look true ∷ judge true ∷ make true ∷ calls)

-- these calls were made, and what is answered came of them
abbrev pub DoneBy : {F E : Type 0} (made : F → List Call → Type 0) (old new : F) → (Bool → List Call → Type 0)
    → Result (Unit {0}) E → Type 0
DoneBy made old new By result = (calls : List Call) × Makes made old new calls × By (is_ok result) calls
