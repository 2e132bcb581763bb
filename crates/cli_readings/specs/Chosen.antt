-- What is listed, exported and reported of the records of a choice, shown of a record, and listed of what was captured twice.
use Rattle.std.specs.Prelude.{◌≡◌, ℕ, List, Ok, Option, Some, true}
use Rattle.sqlite.specs.State.{HasCleanDisk}
use Rattle.sqlite.specs.Store.{Ghosts}
use Rattle.sqlite.specs.Held.{Held, state}
use Rattle.jiff_core.specs.declared.civil.date.Date.{Date}
use Rattle.choice_words.specs.declared.choice.Choice.{Choice}
use Rattle.command_lines.specs.declared.archives.Listing.{Listing}
use Rattle.record_archive.specs.Archive.{Archive, message}
use Rattle.record_choice.specs.Reads.{OnlyReads}
use Rattle.record_choice.specs.declared.entry.RecordEntry.{RecordEntry}
use Rattle.record_history.specs.Events.{Seal}
use Rattle.record_history.specs.Replay.{seal}
use Rattle.record_store.specs.Stores.{StandsFor}
use Rattle.record_store.specs.declared.store.Store.{Store}
use Rattle.cli_choice.specs.declared.questions.Questions.{Questions}
use Rattle.cli_console.specs.Finds.{HasSingles, found_in}
use Rattle.cli_history.specs.OneSeal.{TellsLast}
use Rattle.cli_history.specs.Seals.{fidelity}
use Rattle.cli_history.specs.Tellings.{AreSealsOf}
use Rattle.cli_history.specs.declared.seals.Seals.{Seals}
use Rattle.cli_readings.specs.Exports.{ExportsFound}
use Rattle.cli_readings.specs.Lists.{WritesList}
use Rattle.cli_readings.specs.Reports.{IsReportBy, ReportsMore}
use Rattle.cli_readings.specs.Shows.{IsEntryOf, is_unaltered}
use Rattle.cli_readings.specs.Twice.{WritesTwice}
use Rattle.cli_readings.specs.VolumeExports.{unseen}
use Rattle.cli_readings.specs.VolumeReads.{ReadsFound, TakesFound}
use Rattle.cli_readings.specs.declared.destination.Folder.{Folder}
use Rattle.cli_readings.specs.declared.outgoing.Outgoing.{Outgoing}
use Rattle.cli_readings.specs.declared.report.Reporting.{Reporting}

-- a store is only read
abbrev pub OnlyReadsStore : {S : Type 0} → Ghosts S → (old new : Store S) → Type 0
OnlyReadsStore {S = S} g old new = OnlyReads (λ (s : Store S). HasCleanDisk (state g s.conn)) (λ (s : Store S) a. StandsFor g s a) old new

-- ---- lists

-- THE LIST OF THE RECORDS OF A CHOICE is written, by what is asked of their messages, and nothing else; each number that is typed by itself is
-- found
abbrev pub ListsChosen : {K : Type 0} (written : K → List ℕ → Type 0) → Listing → Choice → Questions → Archive → (before after : K) → Type 0
ListsChosen written listing choice questions a before after =
    TakesFound (λ old b es new. WritesList written b listing old es new) choice questions a before after

-- the same of a store, of which this is left
abbrev pub ListsOf : {S K : Type 0} → Ghosts S → (written : K → List ℕ → Type 0) → Listing → Choice → Questions → (before : Store S)
    → (after : Held S) → (old new : K) → Type 0
ListsOf g written listing choice questions before after old new =
    HasCleanDisk (state g after) → (a : Archive) → StandsFor g before a → ListsChosen written listing choice questions a old new

-- ---- exports

-- THE RECORDS OF A CHOICE ARE EXPORTED to a folder, of which there is one at least, by what is asked of their messages; each number that is
-- typed by itself is found. Messages are judged by the seals that the history tells. Of the folder nothing else is claimed.
pub record IsExported {S : Type 0} (g : Ghosts S) (folder : List ℕ) (choice : Choice) (questions : Questions) (before : Store S) (a : Archive)
    : Type 0 where
  pub seals : Seals
  pub told : AreSealsOf g before seals
  pub begun : Folder
  pub named : begun.path.now ≡ folder
  pub out : Outgoing Folder
  pub exports : ExportsFound unseen seals begun a (found_in choice questions a) out
  pub each_found : HasSingles choice.numbers.items (found_in choice questions a)

-- the same of a store, of which this is left
abbrev pub ExportsOf : {S : Type 0} → Ghosts S → (folder : List ℕ) → Choice → Questions → (before : Store S) → (after : Held S) → Type 0
ExportsOf g folder choice questions before after =
    HasCleanDisk (state g after) → (a : Archive) → StandsFor g before a → IsExported g folder choice questions before a

-- ---- reports

-- THE RECORDS OF A CHOICE ARE REPORTED by a day, by what is asked of their messages; each number that is typed by itself is found. This is
-- left of the store once they are read.
pub record ReportsOf {S : Type 0} (g : Ghosts S) (day : Date) (choice : Choice) (questions : Questions) (before : Store S) : Type 0 where
  pub read : Held S
  pub begun : Reporting
  pub by_day : IsReportBy day begun
  pub whole : Reporting
  pub reports : ReadsFound g (λ old a es new. ReportsMore old a es new) choice questions before read begun whole

-- ---- messages

-- THE OCTETS ARE THE MESSAGE of the record with a number, in a store of which this is left
abbrev pub ShowsOf : {S : Type 0} → Ghosts S → (number : ℕ) → (octets : List ℕ) → (before : Store S) → (after : Held S) → Type 0
ShowsOf g number octets before after =
    HasCleanDisk (state g after) → (a : Archive) → StandsFor g before a → message a number ≡ Ok (Some octets)

-- THE OCTETS ARE THOSE THAT WERE CAPTURED as a message, by the seal that the history of a store tells of it last, if it tells one
pub record AreCapturedIn {S : Type 0} (g : Ghosts S) (store : Store S) (message : ℕ) (octets : List ℕ) : Type 0 where
  pub last : Option (Seal × ℕ)
  pub told : TellsLast g store message last
  pub are : is_unaltered (fidelity last (seal octets)) ≡ true

-- THE MESSAGE THAT IS SHOWN of the record with a number is the one that was captured: this is the store once the entry of the record is read
pub record IsShown {S : Type 0} (g : Ghosts S) (number : ℕ) (octets : List ℕ) (a : Archive) : Type 0 where
  pub entry : RecordEntry
  pub is_entry : IsEntryOf a number entry
  pub read : Store S
  pub stands : StandsFor g read a
  pub captured : AreCapturedIn g read entry.message octets

-- the same of a store, of which this is left
abbrev pub ShowsCaptured : {S : Type 0} → Ghosts S → (number : ℕ) → (octets : List ℕ) → (before : Store S) → (after : Held S) → Type 0
ShowsCaptured g number octets before after =
    HasCleanDisk (state g after) → (a : Archive) → StandsFor g before a → IsShown g number octets a

-- ---- what was captured twice

-- THE LIST OF WHAT WAS CAPTURED TWICE is written, by the seals that the history tells, and nothing else
pub record IsTwiceListed {S K : Type 0} (g : Ghosts S) (written : K → List ℕ → Type 0) (listing : Listing) (before : Store S) (old new : K)
    (a : Archive) : Type 0 where
  pub seals : Seals
  pub told : AreSealsOf g before seals
  pub writes : WritesTwice written listing seals old a new

-- the same of a store, of which this is left
abbrev pub TwiceOf : {S K : Type 0} → Ghosts S → (written : K → List ℕ → Type 0) → Listing → (before : Store S) → (after : Held S)
    → (old new : K) → Type 0
TwiceOf g written listing before after old new =
    HasCleanDisk (state g after) → (a : Archive) → StandsFor g before a → IsTwiceListed g written listing before old new a
