-- Sealed archives of the code, as plain archives, and what a deed makes of one.
use Rattle.std.specs.Prelude.{◌≡◌, ◌⊎◌, ◌<◌, ◌+◌, ◌==◌, ◌++◌, max, ℕ, true, if◌then◌else◌, List, [], ◌∷◌, map, Option, Some, None, Result, Ok, Err}
use Rattle.class_plan.specs.declared.schedules.Schedule.{Schedule}
use Rattle.class_plan.specs.Plans.{Listing, IsPlan}
use Rattle.record_archive.specs.Archive.{Archive, Message, Record, Hold, past_all, record_at, destroy, without}
use Rattle.record_history.specs.Events.{Deed, Seal, PlanReplaced, FoundPlan, Destroyed}
use Rattle.record_history.specs.Lines.{seal_text}
use Rattle.record_history.specs.Replay.{after, made, with_message}
use Rattle.record_history.specs.Views.{seal_view}
use Rattle.record_judge.specs.Holds.{IsHoldIndex}
use Rattle.record_judge.specs.Indexes.{IsRecordIndex, IsMessageIndex}
use Rattle.record_judge.specs.declared.sealed.SealedMessage.{SealedMessage}
use Rattle.record_judge.specs.declared.sealed.SealedRecord.{SealedRecord}
use Rattle.record_judge.specs.declared.sealed.NamedHold.{NamedHold}
use Rattle.record_judge.specs.declared.sealed.SealedArchive.{SealedArchive}
use Rattle.record_judge.specs.declared.faults.Misdeed.{Misdeed}
use Rattle.record_judge.specs.declared.faults.Misdeed.TheVariants as misdeed

abbrev pub message_view : SealedMessage → Message
message_view m = record { number = m.number; body = seal_text (seal_view m.seal) }

abbrev pub record_view : SealedRecord → Record
record_view r = record { number = r.number; message = r.message; path = r.path.items; day = r.day; destroyed = r.destroyed }

abbrev pub hold_view : NamedHold → Hold
hold_view h = record { name = h.name.items; number = h.number }

abbrev pub archive_view : SealedArchive → Archive
archive_view s = record {
  plan = s.plan;
  messages = map message_view s.messages.items;
  records = map record_view s.records.items;
  holds = map hold_view s.holds.items;
}

-- WHAT IS KEPT BESIDE THE LISTS: the number of the next record, and an index of each list
pub record IsKept (s : SealedArchive) : Type 0 where
  pub next : s.next ≡ past_all 1 (map record_view s.records.items)
  pub records : IsRecordIndex s.record_index s.records.items
  pub messages : IsMessageIndex s.message_index s.messages.items
  pub holds : IsHoldIndex s.hold_index s.holds.items

-- what is kept beside the lists stays right
abbrev pub StaysKept : (old new : SealedArchive) → Type 0
StaysKept old new = IsKept old → IsKept new

-- the deed tells of this plan
abbrev pub HasPlan : Deed → Listing → Type 0
HasPlan deed p = (deed ≡ PlanReplaced p) ⊎ (deed ≡ FoundPlan p)

-- the deed destroys a record that was captured after 2199-12-31
pub record IsLate (deed : Deed) (a : Archive) : Type 0 where
  pub number : ℕ
  pub day : ℕ
  pub schedule : Schedule
  pub destroys : deed ≡ Destroyed number day schedule
  pub row : Record
  pub found : record_at a number ≡ Some row
  pub late : 84005 < row.day

-- WHY A DEED IS NOT DONE: the archive refuses it, or it speaks of what no archive has
abbrev pub IsMisdeed : Deed → Archive → Misdeed → Type 0
IsMisdeed deed a misdeed.Refused = after deed a ≡ None
IsMisdeed deed a misdeed.NoPlan = (p : Listing) × (HasPlan deed p × (IsPlan p → ⊥))
IsMisdeed deed a misdeed.LateDay = IsLate deed a
IsMisdeed deed a misdeed.NoMemory = Unit {0}

-- a deed is done to a sealed archive, exactly where the archive's own command does it
abbrev pub IsDone : {X : Type 0} → Deed → (old new : Archive) → Result X Misdeed → Type 0
IsDone deed old new (Ok x) = after deed old ≡ Some new
IsDone deed old new (Err m) = IsMisdeed deed old m

-- ---- what parts of a deed leave

-- the message comes behind the others
pub record AddsMessage (number : ℕ) (seal : Seal) (old new : SealedArchive) : Type 0 where
  pub messages : archive_view new ≡ with_message (archive_view old) (record { number = number; body = seal_text seal })
  pub next : new.next ≡ old.next

-- the record comes behind the others, and the next number is above it
pub record PushesRecord (r : Record) (old new : SealedArchive) : Type 0 where
  pub records : map record_view new.records.items ≡ map record_view old.records.items ++ r ∷ []
  pub next : new.next ≡ max old.next (r.number + 1)
  pub others : archive_view new ≡ record (archive_view old) { records = map record_view new.records.items }

-- the records come behind the others
pub record PushesRecords (rs : List Record) (old new : SealedArchive) : Type 0 where
  pub records : map record_view new.records.items ≡ map record_view old.records.items ++ rs
  pub others : archive_view new ≡ record (archive_view old) { records = map record_view new.records.items }

-- the record, destroyed where it has this number
abbrev pub marked : ℕ → SealedRecord → SealedRecord
marked n r = if r.number == n then record r { destroyed = true } else r

-- the archive destroys the record of this number by the day, and this is its message
pub record MayGo (a : Archive) (n day message : ℕ) : Type 0 where
  pub row : Record
  pub number : row.number ≡ n
  pub message_is : row.message ≡ message
  pub goes : destroy a n day ≡ Ok (without a row)

-- why the record of this number is not destroyed by the day
abbrev pub MayNotGo : Archive → (n day : ℕ) → Misdeed → Type 0
MayNotGo a n day misdeed.Refused = made (destroy a n day) ≡ None
MayNotGo a n day misdeed.LateDay = (r : Record) × ((record_at a n ≡ Some r) × (84005 < r.day))
MayNotGo a n day misdeed.NoPlan = ⊥
MayNotGo a n day misdeed.NoMemory = ⊥
