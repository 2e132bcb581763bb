-- How an export is made, record after record.
use Rattle.std.specs.Prelude.{◌≡◌, ℕ, ◌+◌, ◌==◌, Bool, true, false, min, List, [], ◌∷◌, ◌++◌, length}
use Rattle.std.specs.Prelude.{Option, Some, None, Ok, option_map, decimal, string_bytes}
use Rattle.std.proofs.Common.{refl, sym, ap, ◌∙◌, subst}
use Rattle.std.proofs.lemmas.List.{append_assoc, append-nil}
use Rattle.record_archive.specs.Archive.{Archive, message}
use Rattle.record_choice.specs.declared.entry.RecordEntry.{RecordEntry}
use Rattle.cli_history.specs.Seals.{known, length_and_sum}
use Rattle.cli_history.specs.declared.seals.Seals.{Seals}
use Rattle.cli_page.specs.Names.{file_name}
use Rattle.cli_page.specs.declared.report.Record.{Record}
use Rattle.cli_texts.specs.declared.headers.Headers.{Headers}
use Rattle.cli_texts.specs.declared.records.Row.{Row}
use Rattle.cli_texts.specs.Headers.{date_of, sender_of, subject_of}
use Rattle.cli_texts.specs.Rows.{header_fields, record_fields}
use Rattle.cli_texts.specs.Sums.{shown_sum}
use Rattle.cli_console.specs.Counts.{greatest, one_more}
use Rattle.cli_console.specs.Sinks.{Writes, more_written, nothing_written}
use Rattle.cli_readings.specs.Exports.{are_captured, sealed_fields, sum_line}
use Rattle.cli_readings.specs.Lists.{IsRowOf}
use Rattle.cli_readings.specs.Parts.{Part}
use Rattle.cli_readings.specs.Parts as part
use Rattle.cli_readings.specs.Reports.{IsRecordOf}
use Rattle.cli_readings.specs.declared.outgoing.Count.{Count}
use Rattle.cli_readings.specs.declared.outgoing.Outgoing.{Outgoing}
use Rattle.cli_readings.specs.declared.exporting.Exporting.{Exporting}
use Rattle.cli_readings.specs.declared.exporting.Met.{Met}
use Rattle.cli_readings.specs.declared.exporting.Met.TheVariants as met
use Rattle.cli_readings.specs.declared.exporting.Written.{Written}

-- ---- of a message

-- what is told of a message of a number with these octets: the name of its file, its length, its sum and its header
pub record IsOf (volume : Option ℕ) (number : ℕ) (octets : List ℕ) (w : Written) : Type 0 where
  pub message : w.message ≡ number
  pub file : string_bytes w.file ≡ file_name volume number
  pub length : w.octets ≡ length octets
  pub sum : string_bytes w.sum ≡ shown_sum octets
  pub sender : string_bytes w.headers.sender ≡ sender_of octets
  pub subject : string_bytes w.headers.subject ≡ subject_of octets
  pub date : string_bytes w.headers.date ≡ date_of octets

-- its file, and the line of this in the list of sums
abbrev pub file_parts : (volume : Option ℕ) → (number : ℕ) → (octets : List ℕ) → List Part
file_parts volume number octets =
    part.file (file_name volume number) octets ∷ part.sum (sum_line (shown_sum octets) (file_name volume number)) ∷ []

-- it goes to its file
pub record IsFiled (volume : Option ℕ) (number : ℕ) (octets : List ℕ) (parts : List Part) (last : Option Met) : Type 0 where
  pub told : Written
  pub told_is : IsOf volume number octets told
  pub last_is : last ≡ Some (met.Written told)
  pub parts_are : parts ≡ file_parts volume number octets

-- unless it is not the one that was captured
abbrev pub IsMet : (volume : Option ℕ) → (are_captured : Bool) → (number : ℕ) → (octets : List ℕ) → List Part → Option Met → Type 0
IsMet volume true number octets parts last = IsFiled volume number octets parts last
IsMet volume false number octets parts last = (parts ≡ []) × (last ≡ Some (met.Altered number))

-- ---- of a record

-- the message that was met last has this number
abbrev pub is_met : Option Met → ℕ → Bool
is_met None number = false
is_met (Some (met.Written told)) number = told.message == number
is_met (Some (met.Altered last)) number = last == number

-- the message that was met last, where it was written
abbrev pub written_of : Option Met → Option Written
written_of None = None
written_of (Some (met.Written told)) = Some told
written_of (Some (met.Altered last)) = None

-- the fields of a message in a manifest: its file, its length, its sum and its header
abbrev pub written_fields : Written → List (List ℕ)
written_fields w = string_bytes w.file ∷ decimal w.octets ∷ string_bytes w.sum ∷ header_fields (Some w.headers)

-- those of the one that was written, or else of the one that was captured
abbrev pub met_fields : Seals → Option Written → (message : ℕ) → List (List ℕ)
met_fields s (Some told) message = written_fields told
met_fields s None message = sealed_fields (option_map length_and_sum (known s message))

-- the number of its file, and what its header says
abbrev pub letter_of : Option Written → Option (ℕ × Headers)
letter_of written = option_map (λ (w : Written). (w.message, w.headers)) written

-- that the message of a record is another one is noted, where it was not written
abbrev pub noted_for : (volume : Option ℕ) → Option Written → (number : ℕ) → List Part
noted_for volume (Some told) number = []
noted_for volume None number = part.altered volume number ∷ []

-- a record goes to the index, to the history and to the manifest, with these fields of its message
pub record IsListed (volume : Option ℕ) (e : RecordEntry) (fields : List (List ℕ)) (letter : Option (ℕ × Headers)) (parts : List Part)
    : Type 0 where
  pub shown : Record
  pub shown_is : IsRecordOf volume e shown
  pub line : Row
  pub line_is : IsRowOf volume e line
  pub parts_are : parts
      ≡ part.listed shown letter ∷ part.subject volume e.number e.message ∷ part.row (record_fields line ++ fields) ∷ []

-- a live record with the message that was met last
pub record IsListedAs (volume : Option ℕ) (s : Seals) (e : RecordEntry) (last : Option Met) (parts : List Part) : Type 0 where
  pub lists : List Part
  pub are : IsListed volume e (met_fields s (written_of last) e.message) (letter_of (written_of last)) lists
  pub parts_are : parts ≡ noted_for volume (written_of last) e.number ++ lists

-- a live record whose message was not met at the one before: it is read, and met with its octets
pub record IsNew (volume : Option ℕ) (a : Archive) (s : Seals) (e : RecordEntry) (new : Option Met) (parts : List Part) : Type 0 where
  pub octets : List ℕ
  pub of_it : message a e.number ≡ Ok (Some octets)
  pub files : List Part
  pub met_as : IsMet volume (are_captured s e.message octets) e.message octets files new
  pub rest : List Part
  pub listed_as : IsListedAs volume s e new rest
  pub parts_are : parts ≡ files ++ rest

-- a record is exported: its message goes to a file, unless it is destroyed or was met at the record before, and it goes to the lists
abbrev pub IsExported : (volume : Option ℕ) → (is_destroyed is_met : Bool) → Archive → Seals → RecordEntry → (old new : Option Met)
    → List Part → Type 0
IsExported volume true is_met a s e old new parts = (new ≡ old) × IsListed volume e (sealed_fields None) None parts
IsExported volume false true a s e old new parts = (new ≡ old) × IsListedAs volume s e old parts
IsExported volume false false a s e old new parts = IsNew volume a s e new parts

-- records are exported, each once, in this order, and nothing else
abbrev pub AreExported : (volume : Option ℕ) → Archive → Seals → (old : Option Met) → List RecordEntry → List Part → (new : Option Met)
    → Type 0
AreExported volume a s old [] parts new = (parts ≡ []) × (new ≡ old)
AreExported volume a s old (e ∷ es) parts new =
    (next : Option Met) × (one : List Part) × IsExported volume e.destroyed (is_met old e.message) a s e old next one
    × (rest : List Part) × AreExported volume a s next es rest new × (parts ≡ one ++ rest)

-- ---- as it is counted

abbrev pub no_count : Count
no_count = record { records = 0; messages = 0; octets = 0 }

-- with a message more, of so many octets
abbrev pub with_message : (octets : ℕ) → Count → Count
with_message octets c = record { records = c.records; messages = one_more c.messages; octets = min (c.octets + octets) greatest }

-- with a record more
abbrev pub with_record : Count → Count
with_record c = record { records = one_more c.records; messages = c.messages; octets = c.octets }

-- with a part more
abbrev pub with_part : Part → Count → Count
with_part (part.file name octets) c = with_message (length octets) c
with_part (part.row fields) c = with_record c
with_part p c = c

abbrev pub with_parts : List Part → Count → Count
with_parts [] c = c
with_parts (p ∷ ps) c = with_parts ps (with_part p c)

-- these parts are handed over in this order, and nothing else, and are counted
pub record HandsOver {D : Type 0} (made : D → List Part → Type 0) (old : Outgoing D) (parts : List Part) (new : Outgoing D) : Type 0 where
  pub handed : Writes made old.destination new.destination parts
  pub count : new.count ≡ with_parts parts old.count

-- some parts are handed over, of which this holds
abbrev pub HandsOverSome : {D : Type 0} (made : D → List Part → Type 0) → Outgoing D → (List Part → Type 0) → Outgoing D → Type 0
HandsOverSome made old Are new = (parts : List Part) × Are parts × HandsOver made old parts new

-- an export goes on with the records of a volume, whose messages are judged by these seals; none of them was met
pub record TurnsTo {D : Type 0} (volume : ℕ) (seals : Seals) (old new : Exporting D) : Type 0 where
  pub out : new.out ≡ old.out
  pub volume_is : new.volume ≡ Some volume
  pub seals_are : new.seals ≡ seals
  pub last : new.last ≡ None

-- the parts of these records are handed over, and nothing else
pub record Exports {D : Type 0} (made : D → List Part → Type 0) (old : Exporting D) (a : Archive) (es : List RecordEntry)
    (new : Exporting D) : Type 0 where
  pub over : HandsOverSome made old.out (λ parts. AreExported old.volume a old.seals old.last es parts new.last) new.out
  pub seals : new.seals ≡ old.seals
  pub volume : new.volume ≡ old.volume

-- ---- its laws

pub parts_joined : (ps qs : List Part) (c : Count) → with_parts qs (with_parts ps c) ≡ with_parts (ps ++ qs) c
parts_joined [] qs c = refl
parts_joined (p ∷ ps) qs c = parts_joined ps qs (with_part p c)

exported_joined : (v : Option ℕ) (a : Archive) (s : Seals) (x y z : Option Met) (es fs : List RecordEntry) (t u : List Part)
    → AreExported v a s x es t y → AreExported v a s y fs u z → AreExported v a s x (es ++ fs) (t ++ u) z
exported_joined v a s x y z [] fs t u one other =
    subst (λ p. AreExported v a s x fs (p ++ u) z) (sym one.0) (subst (λ m. AreExported v a s m fs u z) one.1 other)
exported_joined v a s x y z (e ∷ es) fs t u one other = (
  one.0,
  one.1,
  one.2,
  one.3 ++ u,
  exported_joined v a s one.0 y z es fs one.3 u one.4 other,
  ap (λ p. p ++ u) one.5 ∙ append_assoc one.1 one.3 u,
)

module _ {D : Type 0} (made : D → List Part → Type 0) where
  pub nothing_over : (x : Outgoing D) → HandsOver made x [] x
  nothing_over x = record { handed = nothing_written made x.destination; count = refl }

  pub more_over : (x y z : Outgoing D) (ps qs : List Part) → HandsOver made x ps y → HandsOver made y qs z → HandsOver made x (ps ++ qs) z
  more_over x y z ps qs one other = record {
    handed = more_written made x.destination y.destination z.destination ps qs one.handed other.handed;
    count = other.count ∙ ap (with_parts qs) one.count ∙ parts_joined ps qs x.count;
  }

  -- one record is exported, and the seals and the volume stay
  pub one_exported : (x y : Exporting D) (a : Archive) (e : RecordEntry) (is_destroyed : Bool) → e.destroyed ≡ is_destroyed
      → HandsOverSome made x.out (λ parts. IsExported x.volume is_destroyed (is_met x.last e.message) a x.seals e x.last y.last parts) y.out
      → y.seals ≡ x.seals → y.volume ≡ x.volume → Exports made x a (e ∷ []) y
  one_exported x y a e is_destroyed is over same stays = record {
    over = (
      over.0,
      (
        y.last,
        over.0,
        subst (λ b. IsExported x.volume b (is_met x.last e.message) a x.seals e x.last y.last over.0) (sym is) over.1,
        [],
        (refl, refl),
        sym (append-nil over.0),
      ),
      over.2,
    );
    seals = same;
    volume = stays;
  }

  pub none_exported : (x : Exporting D) (a : Archive) → Exports made x a [] x
  none_exported x a = record { over = ([], (refl, refl), nothing_over x.out); seals = refl; volume = refl }

  pub more_exported : (x y z : Exporting D) (a : Archive) (es fs : List RecordEntry) → Exports made x a es y → Exports made y a fs z
      → Exports made x a (es ++ fs) z
  more_exported x y z a es fs one other = record {
    over = (
      one.over.0 ++ other.over.0,
      exported_joined x.volume a x.seals x.last y.last z.last es fs one.over.0 other.over.0 one.over.1
          (subst (λ v. AreExported v a x.seals y.last fs other.over.0 z.last) one.volume
          (subst (λ s. AreExported y.volume a s y.last fs other.over.0 z.last) one.seals other.over.1)),
      more_over x.out y.out z.out one.over.0 other.over.0 one.over.2 other.over.2,
    );
    seals = other.seals ∙ one.seals;
    volume = other.volume ∙ one.volume;
  }
