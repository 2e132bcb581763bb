-- The definitions on worked rows.
use Rattle.std.proofs.Common.{◌≡◌, ℕ, List, ◌∷◌, [], codes, pos, Some, None, refl}
use Rattle.std.specs.Fmt.{digits}
use Rattle.jiff_core.specs.Calendar.{days_from_civil, day_count, days_of_years, days_of_months}
use Rattle.sieve_meaning.specs.declared.run_fault.RunFault.TheVariants.{ClassNotOpen}
use Rattle.desk_commands.specs.Answers.{begun, running, ended, captured, listed}
use Rattle.desk_commands.specs.Office.{activate, destroy, due, hold, set_script}
use Rattle.desk_commands.specs.Standing.{plain, begin, turn}
use Rattle.session_protocol.specs.LineRequests.{LineRequest, Alone, One, Unknown, BadWord, request_of, row}
use Rattle.session_protocol.specs.Dates.{day_of, day_octets}
use Rattle.session_protocol.specs.Replies.{reply_octets}
use Rattle.session_words.specs.Words.{digits_up_to, number_up_to}
use Rattle.session_words.specs.Verbs.{first_word, verb_of}
use Rattle.session_protocol.specs.Words.{next_as}

-- days: 2023-11-14 is day 19675, and 2024-02-29 day 19782
day_read : day_of (codes "2023-11-14") ≡ Some 19675
unfolding day_of digits_up_to days_from_civil day_count days_of_years days_of_months
day_read = refl

leap_day_read : day_of (codes "2024-02-29") ≡ Some 19782
unfolding day_of digits_up_to days_from_civil day_count days_of_years days_of_months
leap_day_read = refl

-- no leap day in a common year, no day before 1970, none without its dashes or its zeros
no_leap_day : day_of (codes "2023-02-29") ≡ None
unfolding day_of digits_up_to
no_leap_day = refl

too_early : day_of (codes "1969-12-31") ≡ None
unfolding day_of digits_up_to
too_early = refl

no_dash : day_of (codes "2023-11 14") ≡ None
unfolding day_of
no_dash = refl

no_zero : day_of (codes "2023-1-014") ≡ None
unfolding day_of
no_zero = refl

day_told : day_octets 19675 ≡ codes "2023-11-14"
unfolding day_octets digits
day_told = refl

leap_day_told : day_octets 19782 ≡ codes "2024-02-29"
unfolding day_octets digits
leap_day_told = refl

-- what lines ask, with all that this computes with
asked : List ℕ → LineRequest
unfolding request_of verb_of first_word row next_as day_of number_up_to digits_up_to days_from_civil day_count days_of_years days_of_months
asked line = request_of line

turn_asked : asked (codes "TURN 1 1000000") ≡ Alone (turn 1 1000000)
unfolding asked
turn_asked = refl

too_many_turns : asked (codes "TURN 1 1000001") ≡ BadWord
unfolding asked
too_many_turns = refl

begin_asked : asked (codes "BEGIN ann 1700000000 12") ≡ One 12 (λ message. begin (codes "ann") 1700000000 message)
unfolding asked
begin_asked = refl

script_asked : asked (codes "SCRIPT ann main 35") ≡ One 35 (λ text. plain (set_script (codes "ann") (codes "main") text))
unfolding asked
script_asked = refl

no_name : asked (codes "ACTIVE ann ") ≡ BadWord
unfolding asked
no_name = refl

active_asked : asked (codes "ACTIVE ann main") ≡ Alone (plain (activate (codes "ann") (codes "main")))
unfolding asked
active_asked = refl

hold_asked : asked (codes "HOLD case-7 1") ≡ Alone (plain (hold (codes "case-7") 1))
unfolding asked
hold_asked = refl

leading_zero : asked (codes "HOLD case-7 01") ≡ BadWord
unfolding asked
leading_zero = refl

due_asked : asked (codes "DUE 2024-02-29") ≡ Alone (plain (due 19782))
unfolding asked
due_asked = refl

destroy_asked : asked (codes "DESTROY 1 2023-11-14") ≡ Alone (plain (destroy 1 19675))
unfolding asked
destroy_asked = refl

one_word_more : asked (codes "DUE 2024-02-29 ") ≡ BadWord
unfolding asked
one_word_more = refl

no_command : asked (codes "due 2024-02-29") ≡ Unknown
unfolding asked
no_command = refl

-- what is answered
ticket_told : reply_octets (begun 1 22) ≡ codes "ticket 1 budget 22\n"
unfolding digits
ticket_told = refl

running_told : reply_octets (running 5) ≡ codes "running 5\n"
unfolding digits
running_told = refl

ended_told : reply_octets (ended 9) ≡ codes "ended 9\n"
unfolding digits
ended_told = refl

records_told : reply_octets (captured (Some ClassNotOpen) (record { number = 1; path = codes "unfiled"; due = None }
    ∷ [])) ≡ codes "fault 1\nrecord 1 class unfiled due never\n"
unfolding digits
records_told = refl

nothing_filed : reply_octets (captured None []) ≡ codes "discarded\n"
nothing_filed = refl

list_told : reply_octets (listed (record { number = 1; path = codes "tax"; due = Some (pos 20041) } ∷ []))
    ≡ codes "record 1 class tax due 2024-11-14\nok\n"
unfolding day_octets digits
list_told = refl

nothing_due : reply_octets (listed []) ≡ codes "ok\n"
nothing_due = refl
