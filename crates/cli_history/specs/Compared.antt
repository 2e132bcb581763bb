-- What a record of a store has, beside the one that a history makes.
use Rattle.std.specs.Prelude.{◌≡◌, ℕ, ℤ, ◌==◌, ◌&&◌, ◌||◌, pos, Bool, true, false, if◌then◌else◌, List, [], length, map, slice_get}
use Rattle.std.specs.Prelude.{IfSome, Option, Some, None, is_some, option_and_then, option_map, Vec, vec_len}
use Rattle.std.specs.declared.alloc.Global.{Global}
use Rattle.std.specs.Borrow.{Bor}
use Rattle.std.specs.BTreeMap.{btree_map_len, get}
use Rattle.std.specs.List.{AllByRecursion, list_all, list_any}
use Rattle.std.specs.Ordering.{nat_cmp}
use Rattle.std.specs.Str.{bytes_eq}
use Rattle.jiff.specs.Words.{epoch_day}
use Rattle.class_plan.specs.Plans.{Listing}
use Rattle.record_archive.specs.Archive.{Archive, body_of}
use Rattle.record_choice.specs.Entries as plain
use Rattle.record_choice.specs.Entries.{OfRecord, entry_of}
use Rattle.record_choice.specs.declared.entry.RecordEntry.{RecordEntry}
use Rattle.record_history.specs.Replay.{seal}
use Rattle.record_history.specs.Views.{seal_view}
use Rattle.record_judge.specs.declared.sealed.SealedArchive.{SealedArchive}
use Rattle.record_judge.specs.declared.sealed.SealedMessage.{SealedMessage}
use Rattle.record_judge.specs.declared.sealed.SealedRecord.{SealedRecord}
use Rattle.cli_history.specs.Made.{AreSealsOf, are_names, names_of, record_of, sealed_of}
use Rattle.cli_history.specs.Stored.{is_stored_as, stored}
use Rattle.cli_history.specs.declared.comparison.Comparison.{Comparison}
use Rattle.cli_history.specs.declared.comparison.Depth.{Depth}
use Rattle.cli_history.specs.declared.comparison.Depth.TheVariants.{Rows, Messages}
use Rattle.cli_history.specs.declared.stored.StoredSeals.{StoredSeals}

-- A RECORD BUT FOR ITS HOLDS: the number of its message, the path of its class, the day of its capture, and whether it is
-- destroyed
pub record Row : Type 0 where
  pub message : ℕ
  pub path : List ℕ
  pub day : ℤ
  pub destroyed : Bool

-- as the store has it, and as a history tells it
abbrev pub row_had : RecordEntry → Row
row_had e = record { message = e.message; path = e.path.items; day = epoch_day e.day; destroyed = e.destroyed }

abbrev pub row_told : SealedRecord → Row
row_told r = record { message = r.message; path = r.path.items; day = pos r.day; destroyed = r.destroyed }

-- the holds on a record have these names, each another one, and no others
abbrev pub has_holds : RecordEntry → List (Bor (List ℕ)) → Bool
has_holds e names = (length e.holds.items == length names)
    && list_all (λ h. list_any (λ (n : Bor (List ℕ)). bytes_eq h.items n.now) names) e.holds.items

-- A RECORD IS AS IT IS TOLD: the history makes one of its number, with the same row, and the holds are those that are told
abbrev pub IsAsTold : Option SealedRecord → RecordEntry → (has_holds : Bool) → Type 0
IsAsTold None e has_holds = ⊥
IsAsTold (Some r) e has_holds = (row_had e ≡ row_told r) × (has_holds ≡ true)

-- ---- a comparison

-- the record of a number that the history makes, if it makes one that was not met yet
abbrev pub record_told : Comparison → ℕ → Option SealedRecord
record_told c n = option_and_then (λ place. slice_get c.made.now.records.items place) (get nat_cmp c.records n)

-- the names of the holds on the record of a number, as the history tells them
abbrev pub names_in : Option (Vec (Bor (List ℕ)) Global) → List (Bor (List ℕ))
names_in None = []
names_in (Some names) = names.items

-- THE RECORD IS AS THE HISTORY TELLS, by what was not met yet
abbrev pub IsAsMade : Comparison → RecordEntry → Type 0
IsAsMade c e = IsAsTold (record_told c e.number) e (has_holds e (names_in (get nat_cmp c.held e.number)))

-- the message of a number that the history tells, if it tells one
abbrev pub message_made : Comparison → ℕ → Option SealedMessage
message_made c n = option_and_then (λ place. slice_get c.made.now.messages.items place) (get nat_cmp c.messages n)

abbrev pub has_seal_of : Option SealedMessage → Option StoredSeals → ℕ → Bool
has_seal_of told None message = true
has_seal_of None (Some seals) message = false
has_seal_of (Some m) (Some seals) message = is_stored_as (seal_view m.seal) (stored seals message)

-- THE MESSAGE OF A RECORD is the one that the history tells, where messages are compared and the record is live
abbrev pub is_message_made : Comparison → RecordEntry → Bool
is_message_made c e = e.destroyed || has_seal_of (message_made c e.message) c.stored e.message

-- nothing differs so far, and the plan is that of the history
abbrev pub is_alike : Comparison → Bool
is_alike c = c.is_planned && (vec_len c.found == 0)

-- and no record of the history is left that was not met
abbrev pub is_same : Comparison → Bool
is_same c = is_alike c && (btree_map_len c.records == 0)

-- the comparison is of the same history, as far as before
pub record IsOfSame (old new : Comparison) : Type 0 where
  pub made : new.made ≡ old.made
  pub held : new.held ≡ old.held
  pub messages : new.messages ≡ old.messages
  pub planned : new.is_planned ≡ old.is_planned
  pub depth : is_some new.stored ≡ is_some old.stored

-- A RECORD IS COMPARED: where nothing differs then, nothing differed before, and the record and its message are as the history
-- tells; it is met then, and no other is
pub record Compares (e : RecordEntry) (old new : Comparison) : Type 0 where
  pub same : IsOfSame old new
  pub alike : is_alike new ≡ true → (is_alike old ≡ true) × IsAsMade old e × (is_message_made new e ≡ true)
  pub met : (n : ℕ) → get nat_cmp new.records n ≡ (if n == e.number then None else get nat_cmp old.records n)

-- ---- a walk over the records of an archive

-- the entry is that of a record of the archive
abbrev pub IsThere : Archive → plain.RecordEntry → Type 0
IsThere a e = OfRecord a e.number (λ r. e ≡ entry_of a r)

-- the seals that are kept stay those of the archive's messages
abbrev pub KeepsSeals : Archive → (old new : Option StoredSeals) → Type 0
KeepsSeals a old new = IfSome old (AreSealsOf a) → IfSome new (AreSealsOf a)

-- the seals that were made before, where messages are compared
abbrev pub seals_of : Depth → Option StoredSeals
seals_of Rows = None
seals_of (Messages s) = Some s

-- the names of the holds on the record of a number that the history tells
abbrev pub names_told : Comparison → ℕ → List (List ℕ)
names_told c n = map (λ (name : Bor (List ℕ)). name.now) (names_in (get nat_cmp c.held n))

-- THE COMPARISON BEGINS: it knows what the history makes, nothing was met, and nothing differs unless the plan does
pub record Begins (made : SealedArchive) (plan : Listing) (depth : Depth) (c : Comparison) : Type 0 where
  pub records : (n : ℕ) → record_told c n ≡ record_of made n
  pub messages : (n : ℕ) → message_made c n ≡ sealed_of made n
  pub names : (n : ℕ) → names_told c n ≡ names_of made.holds.items n
  pub stored : c.stored ≡ seals_of depth
  pub planned : is_alike c ≡ true → plan ≡ made.plan

-- a record but for its holds, as it is listed
abbrev pub row_of : plain.RecordEntry → Row
row_of e = record { message = e.message; path = e.path; day = e.day; destroyed = e.destroyed }

-- the message of a number is the one that the history tells, by its seal
abbrev pub IsSealed : Archive → Comparison → ℕ → Type 0
IsSealed a c message = (m : SealedMessage) × (message_made c message ≡ Some m) ×
    (option_map seal (body_of a.messages message) ≡ Some (seal_view m.seal))

-- AN ENTRY IS AS THE HISTORY TELLS, by what a comparison knew at first: the row, the holds, and the message of a live record,
-- where messages are compared
pub record IsTold (a : Archive) (first : Comparison) (e : plain.RecordEntry) : Type 0 where
  pub told : SealedRecord
  pub told_is : record_told first e.number ≡ Some told
  pub row : row_of e ≡ row_told told
  pub names : are_names e.holds (names_told first e.number) ≡ true
  pub message : is_some first.stored ≡ true → IfSome first.stored (AreSealsOf a) → e.destroyed ≡ false → IsSealed a first e.message

-- SOME ENTRIES OF AN ARCHIVE WERE MET since a comparison began: where nothing differs, each is as the history tells, and those of
-- the history that were not met are left
pub record HasMet (a : Archive) (first c : Comparison) (met : List plain.RecordEntry) : Type 0 where
  pub same : IsOfSame first c
  pub seals : KeepsSeals a first.stored c.stored
  pub left : (n : ℕ) → get nat_cmp c.records n ≡
      (if list_any (λ (e : plain.RecordEntry). n == e.number) met then None else get nat_cmp first.records n)
  pub alike : is_alike c ≡ true → (is_alike first ≡ true) × AllByRecursion (IsTold a first) met
