-- What was captured twice in an archive of volumes.
use Rattle.std.specs.Prelude.{◌≡◌, ℕ, ◌+◌, ◌++◌, ◌∷◌, [], zero, suc, List, ⊤}
use Rattle.sqlite.specs.State.{HasCleanDisk}
use Rattle.sqlite.specs.Store.{Ghosts}
use Rattle.sqlite.specs.Held.{Held, state}
use Rattle.command_lines.specs.declared.archives.Listing.{Listing}
use Rattle.record_archive.specs.Archive.{Archive}
use Rattle.record_store.specs.Stores.{StandsFor}
use Rattle.record_store.specs.declared.store.Store.{Store}
use Rattle.cli_console.specs.declared.sink.StandardOutput.{StandardOutput}
use Rattle.cli_history.specs.declared.seals.Seals.{Seals}
use Rattle.cli_readings.specs.Groups.{KeyedGroup}
use Rattle.cli_readings.specs.VolumeTwice.{AreTwiceIn, HasGathered, ListsGroups, Reading, WritesGroups}
use Rattle.cli_readings.specs.declared.volume_twice.TwiceGroups.{TwiceGroups}
use Rattle.cli_readings.specs.declared.volume_twice.TwiceList.{TwiceList}
use Rattle.cli_tasks.specs.Works.{InVolume}

module _ {S : Type 0} (g : Ghosts S) where
  -- the live records of a volume are gathered behind others, by some seals
  abbrev pub Gathers : (volume : ℕ) → (old new : TwiceGroups) → (before : Store S) → (after : Held S) → Type 0
  Gathers v old new before after = (seals : Seals) × (HasCleanDisk (state g after) → (read : Reading) → StandsFor g before (read v).0
      → (read v).1 ≡ seals → (vs : List ℕ) → HasGathered read vs old → HasGathered read (vs ++ v ∷ []) new)

  -- the rows are made of the records of a volume that are to be listed
  abbrev pub MakesRows : (volume : ℕ) → (old new : TwiceList) → (before : Store S) → (after : Held S) → Type 0
  MakesRows v old new before after = HasCleanDisk (state g after) → (kept : ℕ → Archive) → StandsFor g before (kept v)
      → (l : Listing) (gs : List KeyedGroup) → ListsGroups kept l gs old → ListsGroups kept l gs new

-- IT IS DONE WITH EACH OF SO MANY VOLUMES, one after another, from the first on
abbrev pub DoneWithEach : {X : Type 0} → (Does : (volume : ℕ) → (old new : X) → Type 0) → (last : ℕ) → (old new : X) → Type 0
DoneWithEach Does zero old new = new ≡ old
DoneWithEach {X = X} Does (suc n) old new = (mid : X) × DoneWithEach Does n old mid × Does (n + 1) mid new

module _ {S : Type 0} (g : Ghosts S) (IsAt : (path : List ℕ) → Store S → Type 0) (folder : List ℕ) where
  abbrev pub GathersIn : (volume : ℕ) → (old new : TwiceGroups) → Type 0
  GathersIn v old new = InVolume IsAt folder v (Gathers g v old new)

  abbrev pub MakesRowsIn : (volume : ℕ) → (old new : TwiceList) → Type 0
  MakesRowsIn v old new = InVolume IsAt folder v (MakesRows g v old new)

  -- WHAT WAS CAPTURED TWICE IS LISTED: the live records of each volume are gathered, their groups are put in order, the rows of these records
  -- are made volume by volume, and the list of the groups is written
  pub record ListsTwins {K : Type 0} (written : K → List ℕ → Type 0) (listing : Listing) (last : ℕ) (before after : K) : Type 0 where
    pub none : TwiceGroups
    pub is_none : (read : Reading) → HasGathered read [] none
    pub gathered : TwiceGroups
    pub gathers : DoneWithEach GathersIn last none gathered
    pub begun : TwiceList
    pub groups : (read : Reading) (vs : List ℕ) → HasGathered read vs gathered → (gs : List KeyedGroup) × AreTwiceIn read vs gs
        × ((kept : ℕ → Archive) → ListsGroups kept listing gs begun)
    pub whole : TwiceList
    pub rows : DoneWithEach MakesRowsIn last begun whole
    pub writes : (kept : ℕ → Archive) (l : Listing) (gs : List KeyedGroup) → ListsGroups kept l gs whole
        → WritesGroups written kept l gs before after

  -- the same to standard output, of which nothing else is claimed
  abbrev pub ListsTwinsToOutput : Listing → (last : ℕ) → Type 0
  ListsTwinsToOutput listing last =
      (before : StandardOutput) × (after : StandardOutput) × ListsTwins (λ output text. ⊤) listing last before after
