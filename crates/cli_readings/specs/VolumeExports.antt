-- The export of an archive of volumes: the exports of the records of each volume, one after another, to one destination.
use Rattle.std.specs.Prelude.{◌≡◌, ℕ, true, false, List, [], ◌∷◌, ◌++◌, flat_map, map, Option, Some, None, if◌then◌else◌, ⊤}
use Rattle.record_archive.specs.Archive.{Archive}
use Rattle.record_choice.specs.Entries.{RecordEntry as Entry}
use Rattle.record_choice.specs.declared.entry.RecordEntry.{RecordEntry}
use Rattle.cli_console.specs.Sinks.{Writes}
use Rattle.cli_history.specs.declared.seals.Seals.{Seals}
use Rattle.cli_readings.specs.Exporting.{HandsOver}
use Rattle.cli_readings.specs.Exports.{IsExportOf, count_of, file_for, filed, sum_for}
use Rattle.cli_readings.specs.Parts.{Part, files_in, sums_in}
use Rattle.cli_readings.specs.VolumeReads.{is_any_more}
use Rattle.cli_readings.specs.declared.outgoing.Outgoing.{Outgoing}
use Rattle.cli_readings.specs.declared.volume_exports.ExportOfVolumes.{ExportOfVolumes}

-- what is exported of a volume: its number, what it keeps, the seals of its messages, and the records of it that are exported
pub record Share : Type 0 where
  pub volume : ℕ
  pub archive : Archive
  pub seals : Seals
  pub records : List RecordEntry

abbrev pub share_of : (volume : ℕ) → Archive → Seals → List RecordEntry → Share
share_of v a s es = record { volume = v; archive = a; seals = s; records = es }

-- THE EXPORT OF ONE VOLUME: that of its records. They are listed with the number of the volume, which the names of their files have too
abbrev pub IsExportOfVolume : Share → List Part → Type 0
IsExportOfVolume v parts = IsExportOf (Some v.volume) v.archive v.seals v.records parts

-- the exports of volumes, one after another, and nothing else
abbrev pub AreExportsOf : List Share → List Part → Type 0
AreExportsOf [] parts = parts ≡ []
AreExportsOf (v ∷ vs) parts =
    (one : List Part) × IsExportOfVolume v one × (rest : List Part) × AreExportsOf vs rest × (parts ≡ one ++ rest)

-- the files of a volume, and their lines in the list of sums
abbrev pub files_of : Share → List (List ℕ × List ℕ)
files_of v = map (file_for (Some v.volume) v.archive) (filed v.archive v.seals v.records)

abbrev pub sums_of : Share → List (List ℕ)
sums_of v = map (sum_for (Some v.volume) v.archive) (filed v.archive v.seals v.records)

-- THE EXPORT OF VOLUMES: the exports of each, one after another. Its files, and their lines in the list of sums, are those of all of them
pub record IsExportOfVolumes (vs : List Share) (parts : List Part) : Type 0 where
  pub each : AreExportsOf vs parts
  pub files : files_in parts ≡ flat_map files_of vs
  pub sums : sums_in parts ≡ flat_map sums_of vs

-- ---- as it is made

-- THE EXPORT OF THESE VOLUMES WENT TO A DESTINATION, and nothing else, and all of it is counted
pub record HasExported {D : Type 0} (made : D → List Part → Type 0) (vs : List Share) (before : D) (x : ExportOfVolumes D) : Type 0 where
  pub parts : List Part
  pub are : IsExportOfVolumes vs parts
  pub writes : Writes made before x.exporting.out.destination parts
  pub count : x.exporting.out.count ≡ count_of parts

-- THE RECORDS OF A NEXT VOLUME ARE EXPORTED behind those of the volumes before it, whichever these are, and nothing else
abbrev pub ExportsVolume : {D : Type 0} (made : D → List Part → Type 0) → Share → (old new : ExportOfVolumes D) → Type 0
ExportsVolume {D = D} made v old new = (vs : List Share) (before : D) → HasExported made vs before old → HasExported made (vs ++ v ∷ []) before new

-- the destination is ready, and nothing is handed over to it by that
pub record Begins {D : Type 0} (made : D → List Part → Type 0) (old new : ExportOfVolumes D) : Type 0 where
  pub ready : HandsOver made old.exporting.out [] new.exporting.out
  pub begun : new.is_begun ≡ true

-- NOTHING IS DONE where no record is found in a volume, and else the export has begun
abbrev pub IsBegunBy : {D : Type 0} → (found : List Entry) → (old new : ExportOfVolumes D) → Type 0
IsBegunBy [] old new = new ≡ old
IsBegunBy (e ∷ es) old new = new.is_begun ≡ true

-- what went out of it, if it has begun
abbrev pub out_of : {D : Type 0} → ExportOfVolumes D → Option (Outgoing D)
out_of x = if x.is_begun then Some x.exporting.out else None

-- ---- to a folder, of which nothing is claimed

abbrev pub unseen : {D : Type 0} → D → List Part → Type 0
unseen folder parts = ⊤

-- nothing is exported yet
pub record IsNothing {D : Type 0} (x : ExportOfVolumes D) : Type 0 where
  pub before : D
  pub has : HasExported unseen [] before x
  pub begun : x.is_begun ≡ false

-- as much is exported as before
pub record HasAsMuch {D : Type 0} (old new : ExportOfVolumes D) : Type 0 where
  pub count : new.exporting.out.count ≡ old.exporting.out.count
  pub begun : new.is_begun ≡ old.is_begun

-- THE RECORDS OF A NEXT VOLUME ARE EXPORTED, by some seals of its messages; the export has begun once there is one
pub record ExportsIn {D : Type 0} (volume : ℕ) (a : Archive) (es : List RecordEntry) (old new : ExportOfVolumes D) : Type 0 where
  pub seals : Seals
  pub exports : ExportsVolume unseen (share_of volume a seals es) old new
  pub begun : new.is_begun ≡ is_any_more old.is_begun es
