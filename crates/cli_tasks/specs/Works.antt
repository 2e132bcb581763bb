-- What is done with an archive that is lent.
use Rattle.std.specs.Prelude.{ℕ, ◌+◌, ◌<◌, ◌≤◌, List}
use Rattle.sqlite.specs.Held.{Held}
use Rattle.cli_volumes.specs.Names.{path_of}
use Rattle.record_store.specs.declared.store.Store.{Store}

-- IT IS DONE WITH AN ARCHIVE: a store that was there is lent, and this is so of it and of the connection that is left of it
pub record IsDone {S : Type 0} (WasThere : Store S → Type 0) (Made : (before : Store S) → (after : Held S) → Type 0) : Type 0 where
  pub before : Store S
  pub after : Held S
  pub was_there : WasThere before
  pub made : Made before after

-- IT IS LENT: a store that was there, for something of which nothing is said here
abbrev pub IsLent : {S : Type 0} → (WasThere : Store S → Type 0) → Type 0
IsLent WasThere = IsDone WasThere (λ before after. Unit {0})

-- ---- archives of volumes

-- THE SAME WITH A VOLUME of the archive in a folder
abbrev pub InVolume : {S : Type 0} → (IsAt : (path : List ℕ) → Store S → Type 0) → (folder : List ℕ) (volume : ℕ)
    → (Made : Store S → Held S → Type 0) → Type 0
InVolume IsAt folder v Made = IsDone (IsAt (path_of folder v)) Made

-- EACH VOLUME of a row is so, from the first, which has number 1, to the last
abbrev pub EachVolume : (last : ℕ) → (Holds : (volume : ℕ) → Type 0) → Type 0
EachVolume last Holds = (k : ℕ) → k < last → Holds (k + 1)

-- one of them is
abbrev pub SomeVolume : (last : ℕ) → (Holds : (volume : ℕ) → Type 0) → Type 0
SomeVolume last Holds = (k : ℕ) × (k < last) × Holds (k + 1)

-- THERE ARE VOLUMES, one at least, and this is so up to the last of them
abbrev pub OverVolumes : (Holds : (last : ℕ) → Type 0) → Type 0
OverVolumes Holds = (last : ℕ) × (1 ≤ last) × Holds last
