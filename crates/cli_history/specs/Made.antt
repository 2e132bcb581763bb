-- An archive beside what a history makes of one.
use Rattle.std.specs.Prelude.{◌≡◌, ◌==◌, ◌&&◌, ℕ, Bool, false, true, if◌then◌else◌, List, [], ◌∷◌, map, filter, length}
use Rattle.std.specs.Prelude.{Option, Some, None, option_map, is_some}
use Rattle.std.specs.List.{list_all, list_any}
use Rattle.std.specs.Str.{bytes_eq}
use Rattle.record_archive.specs.Archive.{Archive, Record, body_of, record_at}
use Rattle.record_choice.specs.Entries.{hold_names}
use Rattle.record_history.specs.Events.{Seal}
use Rattle.record_history.specs.Replay.{seal}
use Rattle.record_history.specs.Views.{seal_view}
use Rattle.record_judge.specs.Judging.{Judges}
use Rattle.record_judge.specs.Sealed.{record_view}
use Rattle.record_judge.specs.declared.judge.Judge.{Judge}
use Rattle.record_judge.specs.declared.sealed.NamedHold.{NamedHold}
use Rattle.record_judge.specs.declared.sealed.SealedArchive.{SealedArchive}
use Rattle.record_judge.specs.declared.sealed.SealedMessage.{SealedMessage}
use Rattle.record_judge.specs.declared.sealed.SealedRecord.{SealedRecord}
use Rattle.cli_history.specs.Seals.{later}
use Rattle.cli_history.specs.Stored.{stored}
use Rattle.cli_history.specs.declared.comparison.Depth.{Depth}
use Rattle.cli_history.specs.declared.comparison.Depth.TheVariants.{Rows, Messages}
use Rattle.cli_history.specs.declared.stored.StoredSeals.{StoredSeals}

-- the last of some things that has a number, if one has it
abbrev pub last_numbered : {X : Type 0} → (X → ℕ) → List X → ℕ → Option X
last_numbered number [] n = None
last_numbered number (x ∷ xs) n = later (last_numbered number xs n) (if n == number x then Some x else None)

-- THE RECORD AND THE MESSAGE OF A NUMBER, as a history makes them: what it found last counts
abbrev pub record_of : SealedArchive → ℕ → Option SealedRecord
record_of made n = last_numbered (λ (r : SealedRecord). r.number) made.records.items n

abbrev pub sealed_of : SealedArchive → ℕ → Option SealedMessage
sealed_of made n = last_numbered (λ (m : SealedMessage). m.number) made.messages.items n

-- the names of the holds on the record of a number
abbrev pub names_of : List NamedHold → ℕ → List (List ℕ)
names_of holds n = map (λ (h : NamedHold). h.name.items) (filter (λ (h : NamedHold). n == h.number) holds)

-- THE HOLDS ARE THOSE THAT ARE TOLD: there are as many names, and each that is there is among them. No record has two holds of
-- one name.
abbrev pub are_names : (had told : List (List ℕ)) → Bool
are_names had told = (length had == length told) && list_all (λ (h : List ℕ). list_any (bytes_eq h) told) had

-- BY ITS ROWS AN ARCHIVE IS AS A HISTORY MAKES IT: it has the same plan; the same records, each with its message, class and day,
-- live or destroyed, and no others; and on each of them the same holds
pub record IsMadeBy (made : SealedArchive) (a : Archive) : Type 0 where
  pub plan : a.plan ≡ made.plan
  pub records : (n : ℕ) → record_at a n ≡ option_map record_view (record_of made n)
  pub holds : (n : ℕ) → is_some (record_at a n) ≡ true → are_names (hold_names a n) (names_of made.holds.items n) ≡ true

-- THE MESSAGES ARE THOSE THAT WERE SEALED: the octets of that of each live record have the seal that the history tells of it
abbrev pub HasSealed : SealedArchive → Archive → Type 0
HasSealed made a = (n : ℕ) → (r : Record) → record_at a n ≡ Some r → r.destroyed ≡ false →
    (m : SealedMessage) × (sealed_of made r.message ≡ Some m) × (option_map seal (body_of a.messages r.message) ≡ Some (seal_view m.seal))

-- the seals that were made are those of the archive's messages
abbrev pub AreSealsOf : Archive → StoredSeals → Type 0
AreSealsOf a s = (n : ℕ) → (x : Seal) → stored s n ≡ Some x → option_map seal (body_of a.messages n) ≡ Some x

-- BY ITS ROWS AND MESSAGES the archive is as the history makes it, where the seals that were made before are those of its messages
abbrev pub IsMadeWhole : StoredSeals → SealedArchive → Archive → Type 0
IsMadeWhole s made a = IsMadeBy made a × (AreSealsOf a s → HasSealed made a)

-- as far as it is compared
abbrev pub IsMadeAt : Depth → SealedArchive → Archive → Type 0
IsMadeAt Rows made a = IsMadeBy made a
IsMadeAt (Messages s) made a = IsMadeWhole s made a

-- BY ITS ROWS THE ARCHIVE IS AS THESE LINES MAKE IT: they are those of events, each lawful when it came
pub record IsMadeOf (ls : List (List ℕ)) (a : Archive) : Type 0 where
  pub judge : Judge
  pub judged : Judges judge ls
  pub made : IsMadeBy judge.archive a
