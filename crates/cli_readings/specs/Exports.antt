-- What an export hands over of the records that are found.
use Rattle.std.specs.Prelude.{◌≡◌, ◌≤◌, ℕ, ◌+◌, ◌==◌, ◌&&◌, Bool, true, false, not, if◌then◌else◌, min}
use Rattle.std.specs.Prelude.{List, [], ◌∷◌, ◌++◌, length, map, filter, codes, decimal}
use Rattle.std.specs.Prelude.{Option, Some, None, option_map, Result, Ok, Err}
use Rattle.std.specs.List.{AllZip}
use Rattle.record_archive.specs.Archive.{Archive, message}
use Rattle.record_archive.specs.declared.fault.ArchiveRefusal.{ArchiveRefusal}
use Rattle.record_choice.specs.Entries.{RecordEntry as Entry, entry_view}
use Rattle.record_choice.specs.declared.entry.RecordEntry.{RecordEntry}
use Rattle.record_history.specs.Replay.{seal}
use Rattle.cli_history.specs.Seals.{fidelity, known, length_and_sum}
use Rattle.cli_history.specs.declared.seals.Seals.{Seals}
use Rattle.cli_page.specs.Names.{file_name}
use Rattle.cli_page.specs.declared.report.Record.{Record}
use Rattle.cli_texts.specs.declared.headers.Headers.{Headers}
use Rattle.cli_texts.specs.declared.records.Row.{Row}
use Rattle.cli_texts.specs.Headers.{date_of, sender_of, subject_of}
use Rattle.cli_texts.specs.Rows.{header_fields, record_fields, shown_octets}
use Rattle.cli_texts.specs.Sums.{shown_sum}
use Rattle.cli_texts.specs.Words.{name as shown_name, number as shown_number, words}
use Rattle.cli_console.specs.Counts.{greatest}
use Rattle.cli_console.specs.Headers.{AreTextsOf}
use Rattle.cli_console.specs.Sinks.{Writes}
use Rattle.cli_readings.specs.Checks.{is_live}
use Rattle.cli_readings.specs.Lists.{IsRowOf}
use Rattle.cli_readings.specs.Parts.{Part, altered_in, files_in, index_in, rows_in, subjects_in, sums_in}
use Rattle.cli_readings.specs.Reports.{IsRecordOf}
use Rattle.cli_readings.specs.Shows.{is_unaltered}
use Rattle.cli_readings.specs.declared.outgoing.Count.{Count}
use Rattle.cli_readings.specs.declared.outgoing.Outgoing.{Outgoing}

-- ---- the message of a record

-- the octets that are answered, and none where it is a refusal
abbrev pub octets_in : Result (Option (List ℕ)) ArchiveRefusal → List ℕ
octets_in (Ok (Some octets)) = octets
octets_in (Ok None) = []
octets_in (Err refusal) = []

-- THE OCTETS OF THE MESSAGE of a record, as the archive keeps them
abbrev pub octets_of : Archive → RecordEntry → List ℕ
octets_of a e = octets_in (message a e.number)

-- octets are those that were captured under the number of a message, as far as that is known
abbrev pub are_captured : Seals → (number : ℕ) → (octets : List ℕ) → Bool
are_captured s number octets = is_unaltered (fidelity (known s number) (seal octets))

-- THE MESSAGE OF A RECORD GOES TO A FILE: the record is live, and the message is the one that was captured, as far as that is known
abbrev pub has_file : Archive → Seals → RecordEntry → Bool
has_file a s e = is_live e && are_captured s e.message (octets_of a e)

-- IT IS ANOTHER MESSAGE: the record is live, and the message is not the one that was captured
abbrev pub is_altered : Archive → Seals → RecordEntry → Bool
is_altered a s e = is_live e && not (are_captured s e.message (octets_of a e))

-- ---- files

-- the line of a file in the list of sums
abbrev pub sum_line : (digits name : List ℕ) → List ℕ
sum_line digits name = digits ++ codes "  " ++ name ++ 10 ∷ []

-- THE FILE OF A MESSAGE, which has exactly its octets. In an archive of volumes its name has the number of the volume
abbrev pub file_for : (volume : Option ℕ) → Archive → RecordEntry → List ℕ × List ℕ
file_for volume a e = (file_name volume e.message, octets_of a e)

-- and its line in the list of sums
abbrev pub sum_for : (volume : Option ℕ) → Archive → RecordEntry → List ℕ
sum_for volume a e = sum_line (shown_sum (octets_of a e)) (file_name volume e.message)

-- it is the message that came last
abbrev pub is_again : (last : Option ℕ) → (message : ℕ) → Bool
is_again None message = false
is_again (Some last) message = last == message

-- records without those that have the message of the one before
abbrev pub without_again : (last : Option ℕ) → List RecordEntry → List RecordEntry
without_again last [] = []
without_again last (e ∷ es) = if is_again last e.message then without_again last es else e ∷ without_again (Some e.message) es

-- THE RECORDS BY WHICH MESSAGES ARE FILED: of the live ones whose messages are those that were captured, each that has not the message of
-- the live one before
abbrev pub filed : Archive → Seals → List RecordEntry → List RecordEntry
filed a s es = filter (has_file a s) (without_again None (filter is_live es))

-- ---- lists

-- the fields of a message that goes to a file: the name of this file, how many octets it has, its sum, and what its header says
abbrev pub file_fields : (volume : Option ℕ) → (message : ℕ) → (octets : List ℕ) → List (List ℕ)
file_fields volume message octets =
    file_name volume message ∷ decimal (length octets) ∷ shown_sum octets ∷ words (sender_of octets) ∷ words (subject_of octets)
    ∷ words (date_of octets) ∷ []

-- the fields of one that does not: the length and the sum of the one that was captured, where these are known
abbrev pub sealed_fields : Option (ℕ × List ℕ) → List (List ℕ)
sealed_fields None = [] ∷ [] ∷ [] ∷ header_fields None
sealed_fields (Some s) = [] ∷ decimal s.0 ∷ shown_octets s.1 ∷ header_fields None

-- what is told of a message that is no longer there, or is another one
abbrev pub told_of : Seals → RecordEntry → Option (ℕ × List ℕ)
told_of s e = if e.destroyed then None else option_map length_and_sum (known s e.message)

-- THE FIELDS OF THE MESSAGE OF A RECORD in the manifest
abbrev pub message_fields : (volume : Option ℕ) → Archive → Seals → RecordEntry → List (List ℕ)
message_fields volume a s e =
    if has_file a s e then file_fields volume e.message (octets_of a e) else sealed_fields (told_of s e)

-- a row of the manifest is that of a record: its fields, and behind these those of its message
pub record IsInManifest (volume : Option ℕ) (a : Archive) (s : Seals) (e : RecordEntry) (fields : List (List ℕ)) : Type 0 where
  pub line : Row
  pub line_is : IsRowOf volume e line
  pub are : fields ≡ record_fields line ++ message_fields volume a s e

-- what an index has of the message of a record: where it goes to a file, the number of this file, and what its header says
abbrev pub IsLetterOf : Archive → RecordEntry → (has_file : Bool) → Option (ℕ × Headers) → Type 0
IsLetterOf a e false letter = letter ≡ None
IsLetterOf a e true letter = (headers : Headers) × AreTextsOf a e.number headers × (letter ≡ Some (e.message, headers))

-- an entry of the index is that of a record
pub record IsInIndex (volume : Option ℕ) (a : Archive) (s : Seals) (e : RecordEntry) (x : Record × Option (ℕ × Headers)) : Type 0 where
  pub shown : IsRecordOf volume e x.0
  pub letter : IsLetterOf a e (has_file a s e) x.1

-- ---- all of it

-- a record whose events are in the history, with its volume and the number of its message
abbrev pub subject_for : (volume : Option ℕ) → RecordEntry → Option ℕ × (ℕ × ℕ)
subject_for volume e = (volume, (e.number, e.message))

-- a record whose message is another one, with its volume
abbrev pub altered_for : (volume : Option ℕ) → RecordEntry → Option ℕ × ℕ
altered_for volume e = (volume, e.number)

-- THE EXPORT OF THESE RECORDS, of a store or of a volume, and nothing else. A file has a line in the list of sums; each record is in the
-- manifest, in the index and among those whose events are in the history, once; and those are noted whose messages are not the ones that were
-- captured
pub record IsExportOf (volume : Option ℕ) (a : Archive) (s : Seals) (es : List RecordEntry) (parts : List Part) : Type 0 where
  pub files : files_in parts ≡ map (file_for volume a) (filed a s es)
  pub sums : sums_in parts ≡ map (sum_for volume a) (filed a s es)
  pub manifest : AllZip (IsInManifest volume a s) es (rows_in parts)
  pub index : AllZip (IsInIndex volume a s) es (index_in parts)
  pub subjects : subjects_in parts ≡ map (subject_for volume) es
  pub altered : altered_in parts ≡ map (altered_for volume) (filter (is_altered a s) es)

-- how many octets files have
abbrev pub octets_in_all : List (List ℕ × List ℕ) → ℕ
octets_in_all [] = 0
octets_in_all (f ∷ fs) = length f.1 + octets_in_all fs

-- so much, each up to the greatest count
abbrev pub so_much : (records messages octets : ℕ) → Count
so_much records messages octets =
    record { records = min records greatest; messages = min messages greatest; octets = min octets greatest }

-- HOW MUCH THIS IS: how many records are in the manifest, how many messages went to files, and how many octets these have
abbrev pub count_of : List Part → Count
count_of ps = so_much (length (rows_in ps)) (length (files_in ps)) (octets_in_all (files_in ps))

-- what is told of it in the end, in a line
unfoldable pub exported_text : Count → (folder : List ℕ) → List ℕ
exported_text c folder =
    words (codes "exported records ") ++ shown_number c.records ++ words (codes " messages ") ++ shown_number c.messages
    ++ words (codes " octets ") ++ shown_number c.octets ++ words (codes " to ") ++ shown_name folder ++ 10 ∷ []

-- THE EXPORT OF THESE RECORDS OF A STORE GOES TO A DESTINATION, and nothing else
pub record WritesExport {D : Type 0} (made : D → List Part → Type 0) (seals : Seals) (before : D) (a : Archive) (es : List RecordEntry)
    (after : Outgoing D) : Type 0 where
  pub parts : List Part
  pub are : IsExportOf None a seals es parts
  pub writes : Writes made before after.destination parts
  pub count : after.count ≡ count_of parts

-- the same of the records that are found, of which there is one at least
abbrev pub ExportsFound : {D : Type 0} (made : D → List Part → Type 0) → Seals → D → Archive → List Entry → Outgoing D → Type 0
ExportsFound made seals before a found after =
    (1 ≤ length found) × (es : List RecordEntry) × (map entry_view es ≡ found) × WritesExport made seals before a es after
