-- What is read of the records of an archive of volumes.
use Rattle.std.specs.Prelude.{◌≡◌, ℕ, ◌+◌, zero, suc, true, false, List, Option, Some, None, IfSome, ⊤}
use Rattle.sqlite.specs.Store.{Ghosts}
use Rattle.choice_words.specs.Readings.{reads_as_any_numbers}
use Rattle.choice_words.specs.Typed.{first_above, first_alone}
use Rattle.choice_words.specs.declared.choice.Choice.{Choice}
use Rattle.choice_words.specs.declared.typed.TypedChoice.{TypedChoice}
use Rattle.cli_choice.specs.declared.questions.Questions.{Questions}
use Rattle.command_lines.specs.declared.archives.Listing.{Listing}
use Rattle.command_lines.specs.declared.archives.Target.{Target}
use Rattle.jiff_core.specs.declared.civil.date.Date.{Date}
use Rattle.record_archive.specs.Archive.{Archive}
use Rattle.record_choice.specs.declared.entry.RecordEntry.{RecordEntry}
use Rattle.record_store.specs.declared.store.Store.{Store}
use Rattle.cli_console.specs.declared.sink.StandardOutput.{StandardOutput}
use Rattle.cli_readings.specs.Reports.{IsReportBy}
use Rattle.cli_readings.specs.VolumeExports.{ExportsIn, IsNothing}
use Rattle.cli_readings.specs.VolumeLists.{AddsVolume, Ends, IsNew}
use Rattle.cli_readings.specs.VolumeReads.{ReadsFound}
use Rattle.cli_readings.specs.VolumeReports.{ReportsVolume, reported_of}
use Rattle.cli_readings.specs.declared.volume_exports.VolumeExport.{VolumeExport}
use Rattle.cli_readings.specs.declared.volume_lists.VolumeList.{VolumeList}
use Rattle.cli_readings.specs.declared.volume_reports.VolumeReport.{VolumeReport}
use Rattle.cli_tasks.specs.Commands.{AreAsked}
use Rattle.cli_tasks.specs.Numbers.{IsChoiceTyped}
use Rattle.cli_tasks.specs.Works.{InVolume}
use Rattle.cli_tasks.specs.declared.volume_readings.Reading.{Reading}

-- EACH NUMBER IS TYPED WITH ITS VOLUME, of which there is none after the last one
pub record AreOfVolumes (typed : TypedChoice) (last : ℕ) : Type 0 where
  pub none : first_alone typed ≡ None
  pub within : first_above last typed ≡ None

-- WHERE NOTHING IS REFUSED after something was read, nothing was before, and this was read
abbrev pub GoesWell : {K : Type 0} → (old new : Reading K) → (Reads : (old new : K) → Type 0) → Type 0
GoesWell old new Reads = new.joined.is_refused ≡ false → (old.joined.is_refused ≡ false) × Reads old.reader new.reader

module _ {S : Type 0} (g : Ghosts S) (IsAt : (path : List ℕ) → Store S → Type 0) (folder : List ℕ) where
  module _ {K : Type 0} (takes : (volume : ℕ) → K → Archive → List RecordEntry → K → Type 0) (questions : Questions) where
    -- a reader takes the records of a choice in a volume
    abbrev pub ReadsIn : (volume : ℕ) → Choice → (old new : K) → Type 0
    ReadsIn v choice old new =
        InVolume IsAt folder v (λ before after. ReadsFound g (takes v) choice questions before after old new)

    -- the same by the choice for a volume, if there is one; else nothing is done
    abbrev pub ReadsBy : (volume : ℕ) → Option Choice → (old new : K) → Type 0
    ReadsBy v None old new = new ≡ old
    ReadsBy v (Some choice) old new = ReadsIn v choice old new

    -- the same by the choice for a volume of what is typed of all
    abbrev pub ReadsTyped : TypedChoice → (volume : ℕ) → (old new : K) → Type 0
    ReadsTyped typed v old new = (o : Option Choice) × IsChoiceTyped typed v o × ReadsBy v o old new

    -- A READER TAKES WHAT IS CHOSEN OF EACH OF SO MANY VOLUMES, one after another, from the first on, and nothing else
    abbrev pub ReadsEach : TypedChoice → (last : ℕ) → (old new : K) → Type 0
    ReadsEach typed zero old new = new ≡ old
    ReadsEach typed (suc n) old new = (mid : K) × ReadsEach typed n old mid × ReadsTyped typed (n + 1) mid new

  -- THE RECORDS OF A CHOICE IN EACH VOLUME ARE LISTED, those of one behind those of another, by what is asked of their messages: this is what
  -- is written
  pub record ListsOver {K : Type 0} (written : K → List ℕ → Type 0) (typed : TypedChoice) (listing : Listing) (last : ℕ) (before after : K)
      : Type 0 where
    pub numbers : AreOfVolumes typed last
    pub questions : Questions
    pub asked : AreAsked typed.alone questions
    pub begun : VolumeList K
    pub is_new : IsNew listing before begun
    pub whole : VolumeList K
    pub each : ReadsEach (λ v old a es new. AddsVolume written a v old es new) questions typed last begun whole
    pub ends : Ends written whole after

  -- the same to standard output, of which nothing else is claimed
  abbrev pub ListsToOutput : TypedChoice → Listing → (last : ℕ) → Type 0
  ListsToOutput typed listing last =
      (before : StandardOutput) × (after : StandardOutput) × ListsOver (λ output text. ⊤) typed listing last before after

  -- THE RECORDS OF A CHOICE IN EACH VOLUME ARE EXPORTED, of which there is one at least, by what is asked of their messages. The folder does
  -- not read as numbers of records.
  pub record ExportsOver (typed : TypedChoice) (target : Target) (last : ℕ) : Type 0 where
    pub named : reads_as_any_numbers target.folder.now ≡ false
    pub numbers : AreOfVolumes typed last
    pub questions : Questions
    pub asked : AreAsked typed.alone questions
    pub begun : VolumeExport
    pub nothing : IsNothing begun.export
    pub whole : VolumeExport
    pub each : ReadsEach (λ v old a es new. ExportsIn v a es old.export new.export) questions typed last begun whole
    pub some : whole.export.is_begun ≡ true

  -- THE RECORDS OF A CHOICE IN EACH VOLUME ARE REPORTED by the day that is typed, if one is, by what is asked of their messages
  pub record ReportsOver (typed : TypedChoice) (typed_day : Option Date) (last : ℕ) : Type 0 where
    pub numbers : AreOfVolumes typed last
    pub day : Date
    pub as_typed : IfSome typed_day (λ (d : Date). day ≡ d)
    pub questions : Questions
    pub asked : AreAsked typed.alone questions
    pub begun : VolumeReport
    pub by_day : IsReportBy day begun.reporting
    pub whole : VolumeReport
    pub each : ReadsEach (λ v old a es new. ReportsVolume (reported_of v a.plan es) old new) questions typed last begun whole
