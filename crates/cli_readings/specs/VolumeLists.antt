-- The list of an archive of volumes: the records of one volume after another, between one head and one end.
use Rattle.std.specs.Prelude.{◌≡◌, ℕ, ◌==◌, Bool, true, false, List, [], ◌++◌, Some}
use Rattle.command_lines.specs.declared.archives.Format.{Format}
use Rattle.command_lines.specs.declared.archives.Listing.{Listing}
use Rattle.record_archive.specs.Archive.{Archive}
use Rattle.record_choice.specs.declared.entry.RecordEntry.{RecordEntry}
use Rattle.cli_console.specs.Sinks.{Writes}
use Rattle.cli_readings.specs.Lists.{AreListedAs, HasText, end_of, head_of}
use Rattle.cli_console.specs.Sequences.{more_for}
use Rattle.cli_readings.specs.declared.volume_lists.VolumeList.{VolumeList}

-- the same of records of a volume, whose number stands before theirs
abbrev pub in_volume : (volume : ℕ) → Listing → Listing
in_volume volume l = record l { volume = Some volume }

-- what is yet to stand before the records: nothing once it was written
abbrev pub head_unless : (is_begun : Bool) → Format → (are_asked : Bool) → List ℕ
head_unless true format are_asked = []
head_unless false format are_asked = head_of format are_asked

abbrev pub head_in : {K : Type 0} → VolumeList K → List ℕ
head_in x = head_unless x.is_begun x.list.listing.format x.list.listing.headers

-- a list of which nothing is written yet
pub record IsNew {K : Type 0} (listing : Listing) (sink : K) (x : VolumeList K) : Type 0 where
  pub sink_is : x.list.sink ≡ sink
  pub listing_is : x.list.listing ≡ listing
  pub text : x.list.text.items ≡ []
  pub count : x.list.count ≡ 0
  pub begun : x.is_begun ≡ false

-- what stands before the records is written, unless that was done
pub record Begins {K : Type 0} (written : K → List ℕ → Type 0) (old new : VolumeList K) : Type 0 where
  pub added : Writes (HasText written) old.list new.list (head_in old)
  pub counted : new.list.count ≡ old.list.count
  pub listing : new.list.listing ≡ old.list.listing
  pub begun : new.is_begun ≡ true

-- THESE RECORDS OF A VOLUME ARE ADDED, each once, in this order, behind those of the volumes before it, and nothing else
pub record AddsVolume {K : Type 0} (written : K → List ℕ → Type 0) (a : Archive) (volume : ℕ) (old : VolumeList K) (es : List RecordEntry)
    (new : VolumeList K) : Type 0 where
  pub rows : List ℕ
  pub are : AreListedAs a (in_volume volume old.list.listing) (old.list.count == 0) es rows
  pub added : Writes (HasText written) old.list new.list (head_in old ++ rows)
  pub counted : new.list.count ≡ more_for es old.list.count
  pub listing : new.list.listing ≡ in_volume volume old.list.listing
  pub begun : new.is_begun ≡ true

-- THE LIST IS WRITTEN: what it has, and behind that what stands after so many records
abbrev pub Ends : {K : Type 0} (written : K → List ℕ → Type 0) → VolumeList K → K → Type 0
Ends written x after =
    (all : List ℕ) → HasText written x.list all → written after ((all ++ head_in x) ++ end_of x.list.listing.format x.list.count)
