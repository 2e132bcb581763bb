-- What a judge of a history has seen, and what stands against a line.
use Rattle.std.specs.Prelude.{◌≡◌, ◌≢◌, ◌+◌, ◌<◌, ◌^◌, ℕ, List, [], ◌∷◌, ◌++◌, length, Some, Result, Ok, Err}
use Rattle.record_archive.specs.Archive.{Archive, empty_archive}
use Rattle.record_history.specs.Chain.{mark_after, chain}
use Rattle.record_history.specs.Events.{Event}
use Rattle.record_history.specs.Laws.{Told}
use Rattle.record_history.specs.Lines.{line_of, lines_from}
use Rattle.record_history.specs.Readable.{IsReadable}
use Rattle.record_history.specs.Replay.{IsTrueOf, after, replay, sealed}
use Rattle.record_judge.specs.Sealed.{IsKept, IsMisdeed, archive_view}
use Rattle.record_judge.specs.declared.faults.Misdeed.{Misdeed}
use Rattle.record_judge.specs.declared.faults.Misdeed.TheVariants as misdeed
use Rattle.record_judge.specs.declared.judge.Flaw.{Flaw}
use Rattle.record_judge.specs.declared.judge.Flaw.TheVariants as flaw
use Rattle.record_judge.specs.declared.judge.Judge.{Judge}

-- EACH EVENT SAYS OF ITS RECORD WHAT IS SO at its point: a destruction tells the schedule of the record's class
abbrev pub AreTrueFrom : Archive → List Event → Type 0
AreTrueFrom a [] = Unit {0}
AreTrueFrom a (e ∷ es) = IsTrueOf e.deed a × ((b : Archive) → after e.deed a ≡ Some b → AreTrueFrom b es)

-- THE JUDGE HAS SEEN THESE LINES: they are those of events, each lawful when it came and true of its record, and its
-- archive is what they make. It keeps the number of the next line and the mark of the last.
pub record Judges (j : Judge) (ls : List (List ℕ)) : Type 0 where
  pub next : j.next ≡ length ls + 1
  pub mark : j.mark.items ≡ chain ls
  pub kept : IsKept j.archive
  pub events : List Event
  pub lines : ls ≡ lines_from 1 events
  pub replayed : replay events empty_archive ≡ Some (archive_view j.archive)
  pub told_truly : AreTrueFrom empty_archive events

-- the line is that of an event whose deed is not done, for this reason
abbrev pub IsUndone : Judge → List ℕ → Misdeed → Type 0
IsUndone j line m = (e : Event) × ((line ≡ line_of j.next e) × IsMisdeed e.deed (archive_view j.archive) m)

-- the line is that of an event that tells another schedule than that of its record's class
abbrev pub IsUntrue : Judge → List ℕ → Type 0
IsUntrue j line = (e : Event) × ((line ≡ line_of j.next e) × (IsTrueOf e.deed (archive_view j.archive) → ⊥))

-- WHAT STANDS AGAINST A ROW
abbrev pub IsFlaw : Judge → (number : ℕ) → (line mark : List ℕ) → Flaw → Type 0
IsFlaw j number line mark flaw.OutOfTurn = number ≢ j.next
IsFlaw j number line mark flaw.NotALine = (n : ℕ) (e : Event) → n < 2 ^ 64 → IsReadable e → line ≢ line_of n e
IsFlaw j number line mark flaw.OtherNumber = (n : ℕ) × ((e : Event) × ((line ≡ line_of n e) × (n ≢ j.next)))
IsFlaw j number line mark flaw.OtherMark = mark ≢ mark_after j.mark.items line
IsFlaw j number line mark flaw.OtherSchedule = IsUntrue j line
IsFlaw j number line mark flaw.Refused = IsUndone j line misdeed.Refused
IsFlaw j number line mark flaw.NoPlan = IsUndone j line misdeed.NoPlan
IsFlaw j number line mark flaw.LateDay = IsUndone j line misdeed.LateDay
IsFlaw j number line mark flaw.NoMemory = Unit {0}

-- the judge has seen one line more, whose number and mark are those of the chain; or this stands against it
abbrev pub Takes : (old new : Judge) → List (List ℕ) → (number : ℕ) → (line mark : List ℕ) → {X : Type 0} → Result X Flaw → Type 0
Takes old new ls number line mark (Ok x) = Judges new (ls ++ line ∷ []) × ((number ≡ length ls + 1) × (mark ≡ chain (ls ++ line ∷ [])))
Takes old new ls number line mark (Err f) = IsFlaw old number line mark f

-- THE LAW: the lines that a judge has seen explain each archive that is the judge's when it is sealed
abbrev pub JudgedIsTold : Type 0
JudgedIsTold = (j : Judge) (ls : List (List ℕ)) (a : Archive) → Judges j ls → archive_view j.archive ≡ sealed a → Told a ls
