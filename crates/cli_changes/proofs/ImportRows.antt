-- How an import ends, and what the history notes of it, on worked rows.
use Rattle.std.proofs.Common.{◌≡◌, ℕ, List, [], ◌∷◌, map, codes, Some, None, refl}
use Rattle.jiff_core.specs.declared.civil.date.Date.{Date}
use Rattle.command_lines.specs.declared.archives.imports.Dating.TheVariants as asked
use Rattle.cli_console.specs.declared.failure.Status.TheVariants.{BadData, TryAgain}
use Rattle.mail_import.specs.Calls.{ended}
use Rattle.mail_import.specs.Fates.{because, too_long}
use Rattle.mail_import.specs.Findings.{Finding, beside, boxed, captured, course, empty_folder, filed, known, message, nameless, oversized, stays}
use Rattle.mail_import.specs.Findings.{turned_away, undated_lines, unread}
use Rattle.mail_import.specs.Imports.{at_message, last_course}
use Rattle.mail_import.specs.Tallies.{no_messages}
use Rattle.mail_import.specs.declared.known.FirstRecord.{FirstRecord}
use Rattle.mail_intake.specs.Calls.{no_memory}
use Rattle.cli_changes.specs.ImportRounds.{at_start, next_source}
use Rattle.cli_changes.specs.Imports.{done_after, notes_of, status_of}

-- a record of the second volume
abbrev first : ℕ → FirstRecord
first number = record { volume = Some 2; number = number }

-- by how many messages stay, how many are given up, and how many folders have none
statuses_are : map (λ (r : ℕ × ℕ × ℕ). status_of (record no_messages { unfit = r.0; given_up = r.1; empty = r.2 }))
    ((0, 0, 0) ∷ (2, 0, 0) ∷ (0, 1, 0) ∷ (2, 1, 0) ∷ (0, 0, 1) ∷ (0, 1, 1) ∷ [])
    ≡ None ∷ Some BadData ∷ Some TryAgain ∷ Some TryAgain ∷ Some BadData ∷ Some TryAgain ∷ []
statuses_are = refl

notes_are : (day : Date) → map notes_of (asked.Received ∷ asked.Date ∷ asked.Now ∷ asked.On day ∷ [])
    ≡ codes "dated=received" ∷ codes "dated=date" ∷ codes "dated=now" ∷ codes "dated=given" ∷ []
notes_are day = refl

-- each message that is found is done once, whatever becomes of it: taken, passed over, or left with a reason; what else is found is none
messages_are_done_once : map (λ (s : Finding). done_after (course s) 7)
    (message (codes "old.mbox:1") (boxed (codes "tax")) (captured 9 (Some (first 3)))
    ∷ message (codes "old.mbox:2") (boxed (codes "tax")) (captured 9 None)
    ∷ message (codes "old.mbox:3") (boxed (codes "tax")) (known (first 3))
    ∷ message (codes "old.mbox:4") oversized (stays too_long)
    ∷ message (codes "old/a.eml") (filed (codes "rent")) (turned_away 9 no_memory)
    ∷ message (codes "old/b.eml") (unread no_memory) (stays (because no_memory))
    ∷ nameless 2 ∷ empty_folder (codes "old") ∷ beside 1 1 ∷ undated_lines (codes "old.mbox") 9 2 ∷ [])
    ≡ 8 ∷ 8 ∷ 8 ∷ 8 ∷ 8 ∷ 8 ∷ 7 ∷ 7 ∷ 7 ∷ 7 ∷ []
messages_are_done_once = refl

-- a message at which a round ends is not done
last_is_not_done : done_after (last_course (at_message (codes "old/a.eml") (filed (codes "rent")) 9 ended)) 7 ≡ 7
last_is_not_done = refl

-- the third source begins after the messages of the first two
sources_are_done : next_source (record (next_source (record at_start { messages = 4 })) { messages = 9 })
    ≡ record { sources = 2; before = 9; messages = 9 }
sources_are_done = refl
