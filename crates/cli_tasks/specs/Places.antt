-- Where messages are captured, where a record of a volume is, and how a failure names a volume.
use Rattle.std.specs.Prelude.{◌≡◌, ◌≤◌, ◌⊎◌, ℕ, Bool, true, false, List, string_bytes, Option, Some, None}
use Rattle.cli_changes.specs.Spaces.{no_end, space_as_it_is, space_of}
use Rattle.cli_changes.specs.declared.space.Place.{Place}
use Rattle.cli_changes.specs.declared.space.Space.{Space}
use Rattle.cli_console.specs.declared.failure.Failure.{Failure}
use Rattle.cli_console.specs.declared.failure.Failure.TheVariants.{Closed, NoMemory, Reported, Told}
use Rattle.cli_console.specs.declared.failure.Status.{Status}
use Rattle.cli_console.specs.declared.failure.Status.TheVariants.{Usage, BadData, NoInput, CannotMake, NotWritten, TryAgain}
use Rattle.cli_volumes.specs.Names.{path_of}
use Rattle.command_lines.specs.declared.archives.TypedNumber.{TypedNumber}
use Rattle.cli_tasks.specs.declared.rolling.Capturing.{Capturing}

-- the path of a store, or of a volume of the archive in its folder
abbrev pub path_at : (store : List ℕ) → (volume : Option ℕ) → List ℕ
path_at store None = store
path_at store (Some v) = path_of store v

-- MESSAGES ARE CAPTURED in the store at this path, or in a volume of the archive there: at the path of that volume, and under its number
abbrev pub IsIn : (store : List ℕ) → Capturing → Type 0
IsIn store capturing = string_bytes capturing.path ≡ path_at store capturing.volume

-- a place with this space in a volume, if it is one
abbrev pub place_with : (volume : Option ℕ) → Space → Place
place_with volume space = record { volume = volume; space = space }

-- THE PLACE OF CAPTURES: in a store which is no volume there is space without end, and in a volume as much as its octets leave of a size
abbrev pub IsPlaceIn : (volume : Option ℕ) → Place → Type 0
IsPlaceIn None place = place ≡ place_with None no_end
IsPlaceIn (Some v) place = (octets : ℕ) × (size : ℕ) × (place ≡ place_with (Some v) (space_of octets size))

-- the same of a volume as it is, before which none was begun: nothing is left where it is over its size
abbrev pub IsPlaceAsItIs : (volume : Option ℕ) → Place → Type 0
IsPlaceAsItIs None place = place ≡ place_with None no_end
IsPlaceAsItIs (Some v) place = (octets : ℕ) × (size : ℕ) × (place ≡ place_with (Some v) (space_as_it_is octets size))

-- A ROUND OF AN IMPORT has a place in the store at this path, or in a volume of the archive there: as it is, or as it is found for a capture
pub record IsForImport (store : List ℕ) (capturing : Capturing) (place : Place) : Type 0 where
  pub is_in : IsIn store capturing
  pub place_is : IsPlaceIn capturing.volume place ⊎ IsPlaceAsItIs capturing.volume place

-- THE PATH OF A RECORD that is typed is that of its volume, which is none after the last one
pub record IsPathOf (folder : List ℕ) (last : ℕ) (typed : TypedNumber) (path : List ℕ) : Type 0 where
  pub volume : ℕ
  pub typed_so : typed.volume ≡ Some volume
  pub within : volume ≤ last
  pub path_is : path ≡ path_of folder volume

-- ---- failures

abbrev pub is_not_written : Status → Bool
is_not_written Usage = false
is_not_written BadData = false
is_not_written NoInput = false
is_not_written CannotMake = false
is_not_written NotWritten = true
is_not_written TryAgain = false

-- A FAILURE OF STANDARD OUTPUT: it is told that something could not be written
abbrev pub is_of_output : Failure → Bool
is_of_output (Told status text) = is_not_written status
is_of_output Closed = false
is_of_output NoMemory = false
is_of_output (Reported status) = false

abbrev pub is_of_reading : Status → Bool
is_of_reading Usage = false
is_of_reading BadData = true
is_of_reading NoInput = true
is_of_reading CannotMake = false
is_of_reading NotWritten = false
is_of_reading TryAgain = false

-- A FAILURE OF WHAT IS TO BE MADE is not told as one of what is to be read
abbrev pub IsOfMaking : Failure → Type 0
IsOfMaking (Told status text) = is_of_reading status ≡ false
IsOfMaking Closed = Unit {0}
IsOfMaking NoMemory = Unit {0}
IsOfMaking (Reported status) = Unit {0}
