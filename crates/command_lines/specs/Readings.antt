-- What is asked of lists, exports and pages, and of single records.
use Rattle.std.specs.Prelude.{◌≡◌, ℕ, ◌&&◌, Bool, true, false, List, [], ◌∷◌, codes, Option, Some, None, if◌then◌else◌}
use Rattle.std.specs.List.{flat_map}
use Rattle.std.specs.Str.{bytes_eq}
use Rattle.jiff.specs.Types.{Date}
use Rattle.clap.specs.declared.parser.matches.Found.{Found}
use Rattle.choice_words.specs.Readings.{reads_as_numbers}
use Rattle.choice_words.specs.declared.typed.TypedChoice.{TypedChoice}
use Rattle.command_lines.specs.Asked.{is_given, text_of, value_in}
use Rattle.command_lines.specs.Chosen.{AreChosen, AreConditioned, IsUnchosen}
use Rattle.command_lines.specs.Days.{IsDay}
use Rattle.command_lines.specs.Numbers.{IsNumberOf}
use Rattle.command_lines.specs.declared.archives.ChosenTask.TheVariants as task
use Rattle.command_lines.specs.declared.archives.Command.{Command}
use Rattle.command_lines.specs.declared.archives.Command.TheVariants as command
use Rattle.command_lines.specs.declared.archives.Format.{Format}
use Rattle.command_lines.specs.declared.archives.Format.TheVariants as format
use Rattle.command_lines.specs.declared.archives.Listing.{Listing}
use Rattle.command_lines.specs.declared.archives.Sorting.{Sorting}
use Rattle.command_lines.specs.declared.archives.Sorting.TheVariants as sorting
use Rattle.command_lines.specs.declared.archives.Target.{Target}
use Rattle.command_lines.specs.declared.archives.TypedNumber.{TypedNumber}
use Rattle.command_lines.specs.declared.archives.Why.{Why}

-- ---- lists

-- the flags that ask for formats
abbrev pub formats : List (List ℕ × Format)
formats =
    (codes "csv", format.Csv) ∷
    (codes "json", format.Json) ∷
    (codes "numbers", format.Numbers) ∷
    (codes "count", format.Count) ∷
    []

abbrev pub format_by : Found → List ℕ × Format → List Format
format_by found flag = if is_given found flag.0 then flag.1 ∷ [] else []

-- the formats whose flags are given
abbrev pub formats_in : Found → List Format
formats_in found = flat_map (format_by found) formats

-- one format, which is that of lines where no other one is asked for
abbrev pub one_format : List Format → Option Format
one_format [] = Some format.Lines
one_format (f ∷ []) = Some f
one_format (f ∷ g ∷ fs) = None

-- what is listed has no message
abbrev pub is_bare : Format → Bool
is_bare format.Numbers = true
is_bare format.Count = true
is_bare other = false

-- HOW RECORDS ARE LISTED
pub record IsListing (found : Found) (listing : Listing) : Type 0 where
  pub format : one_format (formats_in found) ≡ Some listing.format
  pub headers : listing.headers ≡ is_given found (codes "headers")
  pub messages : (listing.headers && is_bare listing.format) ≡ false
  pub volume : listing.volume ≡ None

pub record ListsChosen (found : Found) (choice : TypedChoice) (list : Listing) : Type 0 where
  pub twice : is_given found (codes "twice") ≡ false
  pub chosen : AreChosen found choice
  pub listing : IsListing found list

pub record ListsTwice (found : Found) (list : Listing) : Type 0 where
  pub twice : is_given found (codes "twice") ≡ true
  pub unchosen : IsUnchosen found
  pub listing : IsListing found list

-- RECORDS ARE LISTED: those that are chosen, or those whose messages stand twice, where `--twice` is given and nothing is chosen
abbrev pub IsList : Found → Command → Type 0
IsList found (command.Chosen choice (task.List listing)) = ListsChosen found choice listing
IsList found (command.Twice listing) = ListsTwice found listing
IsList found other = ⊥

-- ---- exports and pages

-- the order of an index
abbrev pub sorting_typed : Option (List ℕ) → Option Sorting
sorting_typed None = Some sorting.Number
sorting_typed (Some word) =
    if bytes_eq word (codes "number") then Some sorting.Number
    else if bytes_eq word (codes "date") then Some sorting.Date
    else if bytes_eq word (codes "sender") then Some sorting.Sender
    else None

pub record IsTarget (found : Found) (target : Target) : Type 0 where
  pub folder : value_in found (codes "folder") ≡ Some target.folder.now
  pub place : reads_as_numbers target.folder.now ≡ false
  pub sorting : sorting_typed (value_in found (codes "sort")) ≡ Some target.sorting

pub record Exports (found : Found) (choice : TypedChoice) (to : Target) : Type 0 where
  pub chosen : AreChosen found choice
  pub target : IsTarget found to

-- RECORDS ARE EXPORTED: those that are chosen, to the folder that is typed
abbrev pub IsExport : Found → Command → Type 0
IsExport found (command.Chosen choice (task.Export target)) = Exports found choice target
IsExport found other = ⊥

pub record Reports (found : Found) (choice : TypedChoice) (due : Option Date) : Type 0 where
  pub day : IsDay (value_in found (codes "day")) due
  pub conditioned : AreConditioned found choice

-- A PAGE IS WRITTEN ON RECORDS: on those that meet the conditions, as of a day
abbrev pub IsReport : Found → Command → Type 0
IsReport found (command.Chosen choice (task.Report day)) = Reports found choice day
IsReport found other = ⊥

-- ---- single records

pub record Shows (found : Found) (n : TypedNumber) (are_fields : Bool) : Type 0 where
  pub number : IsNumberOf (value_in found (codes "number")) n
  pub fields : are_fields ≡ is_given found (codes "fields")

-- A MESSAGE IS WRITTEN, or its fields
abbrev pub IsShow : Found → Command → Type 0
IsShow found (command.Show n fields) = Shows found n fields
IsShow found other = ⊥

-- by which rules it is asked why a record is in its class
pub record IsWhyOf (found : Found) (why : Why) : Type 0 where
  pub rules : value_in found (codes "rules") ≡ Some why.rules.now
  pub formerly : text_of why.formerly ≡ value_in found (codes "formerly")
  pub officer : value_in found (codes "officer") ≡ Some why.officer.now
  pub number : IsNumberOf (value_in found (codes "number")) why.record

-- IT IS SAID WHY A RECORD IS IN ITS CLASS
abbrev pub IsWhy : Found → Command → Type 0
IsWhy found (command.Why why) = IsWhyOf found why
IsWhy found other = ⊥
