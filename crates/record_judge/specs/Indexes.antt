-- What is kept beside the lists of a sealed archive, so that no deed goes over a whole list.
use Rattle.std.specs.Prelude.{◌≡◌, ◌+◌, ◌==◌, ◌&&◌, not, if◌then◌else◌, ℕ, suc, Bool, List, [], ◌∷◌, Option, Some, None, option_map}
use Rattle.std.specs.Ordering.{nat_cmp}
use Rattle.std.specs.BTreeMap.{get}
use Rattle.record_judge.specs.Counts.{count_at, only_at, tally}
use Rattle.record_judge.specs.declared.message_index.MessageIndex.{MessageIndex}
use Rattle.record_judge.specs.declared.record_index.RecordIndex.{RecordIndex}
use Rattle.record_judge.specs.declared.sealed.SealedMessage.{SealedMessage}
use Rattle.record_judge.specs.declared.sealed.SealedRecord.{SealedRecord}

-- the place of the first element that passes
abbrev pub first_of : {X : Type 0} → (X → Bool) → List X → Option ℕ
first_of p [] = None
first_of p (x ∷ xs) = if p x then Some 0 else option_map (λ i. suc i) (first_of p xs)

-- the one, or else the other
abbrev pub first_or : Option ℕ → Option ℕ → Option ℕ
first_or None other = other
first_or (Some i) other = Some i

-- a place at one number, and none at all others
abbrev pub place_at : ℕ → ℕ → ℕ → Option ℕ
place_at number place q = if q == number then Some place else None

-- the record has this number
abbrev pub has_the_number : ℕ → SealedRecord → Bool
has_the_number q r = r.number == q

-- the record is live and has this message
abbrev pub has_live : ℕ → SealedRecord → Bool
has_live q r = not r.destroyed && (r.message == q)

-- THE INDEX OF THE RECORDS: the place of the first with each number, how many have each number, and how many live ones each
-- message has
pub record IsRecordIndex (index : RecordIndex) (rows : List SealedRecord) : Type 0 where
  pub first : (q : ℕ) → get nat_cmp index.first q ≡ first_of (has_the_number q) rows
  pub numbers : (q : ℕ) → count_at index.numbers q ≡ tally (has_the_number q) rows
  pub lives : (q : ℕ) → count_at index.lives q ≡ tally (has_live q) rows

-- the index of the records before is that of those after
abbrev pub FollowsRecords : (old : RecordIndex) → List SealedRecord → (new : RecordIndex) → List SealedRecord → Type 0
FollowsRecords old rows new after = IsRecordIndex old rows → IsRecordIndex new after

-- the message has this number
abbrev pub is_message : ℕ → SealedMessage → Bool
is_message q m = m.number == q

-- THE INDEX OF THE MESSAGES: how many have each number
pub record IsMessageIndex (index : MessageIndex) (rows : List SealedMessage) : Type 0 where
  pub numbers : (q : ℕ) → count_at index.numbers q ≡ tally (is_message q) rows

-- the index of the messages before is that of those after
abbrev pub FollowsMessages : (old : MessageIndex) → List SealedMessage → (new : MessageIndex) → List SealedMessage → Type 0
FollowsMessages old rows new after = IsMessageIndex old rows → IsMessageIndex new after

-- a message is noted in the index
pub record IsMessageNoted (number : ℕ) (old new : MessageIndex) : Type 0 where
  pub numbers : (q : ℕ) → count_at new.numbers q ≡ count_at old.numbers q + only_at number 1 q

-- a record at a place is noted in the index
pub record IsNoted (r : SealedRecord) (place : ℕ) (old new : RecordIndex) : Type 0 where
  pub first : (q : ℕ) → get nat_cmp new.first q ≡ first_or (get nat_cmp old.first q) (place_at r.number place q)
  pub numbers : (q : ℕ) → count_at new.numbers q ≡ count_at old.numbers q + only_at r.number 1 q
  pub lives : (q : ℕ) → count_at new.lives q ≡ count_at old.lives q + only_at r.message (if r.destroyed then 0 else 1) q
