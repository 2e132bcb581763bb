-- What `check` knows of a history.
use Rattle.std.specs.Prelude.{◌≡◌, ℕ, nat_eq, Bool, true, false, if◌then◌else◌, List, [], ◌∷◌, map, Option, Some, None, is_none, is_some}
use Rattle.std.specs.Borrow.{Bor}
use Rattle.std.specs.List.{starts_with}
use Rattle.std.specs.Str.{bytes_eq}
use Rattle.record_archive.specs.Archive.{Archive}
use Rattle.record_tables.specs.Events.{Event as Row}
use Rattle.record_reads.specs.declared.events.EventRow.{EventRow}
use Rattle.record_history.specs.Events.{Event}
use Rattle.record_judge.specs.Judging.{Judges}
use Rattle.record_judge.specs.declared.judge.Judge.{Judge}
use Rattle.record_noted.specs.Histories.{rows_of}
use Rattle.cli_history.specs.Findings.{is_unaccepted, stage_after, stage_of}
use Rattle.cli_history.specs.Made.{IsMadeWhole}
use Rattle.cli_history.specs.Marks.{is_sought, met_after}
use Rattle.cli_history.specs.Replays.{Tell, told_by}
use Rattle.cli_history.specs.Seals.{later}
use Rattle.cli_history.specs.declared.judging.Judgement.{Judgement}
use Rattle.cli_history.specs.declared.stored.StoredSeals.{StoredSeals}

-- a mark is the one that is looked for, if one is
abbrev pub is_head : Option (Bor (List ℕ)) → List ℕ → Bool
is_head head mark = is_sought (λ (m : Bor (List ℕ)). bytes_eq m.now mark) head

-- THE EVENT THAT HAS A MARK: the number of the last row that has it
abbrev pub marked : (List ℕ → Bool) → List Row → Option ℕ
marked p [] = None
marked p (r ∷ rows) = later (marked p rows) (if p r.mark then Some r.number else None)

-- a mark begins so
abbrev pub begins_so : (front mark : List ℕ) → Bool
begins_so front mark = starts_with nat_eq mark front

-- THE EVENT WHOSE MARK BEGINS SO: the last one of these rows, if one does
abbrev pub IsMet : (front : List ℕ) → Option ℕ → List Row → Type 0
IsMet front met rows = met ≡ marked (begins_so front) rows

-- THE HISTORY OF THESE ROWS IS WHOLE so far: each was lawful when it came, and what was found and the mark that is met are what
-- they say
pub record IsWhole (j : Judgement) (rows : List Row) : Type 0 where
  pub judged : Judges j.watch.judge (map (λ r. r.line) rows)
  pub events : List Event
  pub tell : Tell (map (λ r. r.line) rows) events
  pub stage : j.findings.stage ≡ stage_of events
  pub met : j.met ≡ marked (is_head j.head) rows

-- it is, unless something stands against an event
abbrev pub IsJudged : Judgement → List Row → Type 0
IsJudged j rows = is_none j.watch.fault ≡ true → IsWhole j rows

-- what is known after an event against which nothing stands
pub record TakesEvent (row : EventRow) (old new : Judgement) : Type 0 where
  pub event : Event
  pub told : told_by row.line.items ≡ Some event
  pub stage : new.findings.stage ≡ stage_after old.findings.stage event
  pub met : new.met ≡ met_after (is_head old.head row.mark.items) row.number old.met
  pub watch : new.watch ≡ old.watch
  pub head : new.head ≡ old.head

-- THE HISTORY OF THESE LINES PASSES beside an archive: each line tells an event that was lawful when it came, the archive is what
-- they make, each message by its seal, nothing that was found is unaccepted, and one of them has the mark that is looked for, if
-- one is
pub record Passes (head : Option (Bor (List ℕ))) (stored : StoredSeals) (a : Archive) (ls : List (List ℕ)) : Type 0 where
  pub judge : Judge
  pub judged : Judges judge ls
  pub made : IsMadeWhole stored judge.archive a
  pub events : List Event
  pub tell : Tell ls events
  pub accepted : is_unaccepted events ≡ false
  pub met : is_some head ≡ true → is_some (marked (is_head head) (rows_of ls)) ≡ true
