-- What is told of the reasons why a record may not be destroyed: the holds that keep it, and what its schedule says.
use Rattle.std.specs.Prelude.{ℕ, List, ◌++◌, flat_map, codes, Option, Some, None, Vec}
use Rattle.std.specs.declared.alloc.Global.{Global}
use Rattle.class_plan.specs.declared.schedules.Action.TheVariants as action
use Rattle.class_plan.specs.declared.schedules.Schedule.{Schedule}
use Rattle.class_plan.specs.declared.schedules.Schedule.TheVariants.{Permanent, After}
use Rattle.cli_texts.specs.Lines.{record_number}
use Rattle.cli_texts.specs.Words.{number, quotation, words}
use Rattle.jiff.specs.Words.{date_text}
use Rattle.jiff_core.specs.declared.civil.date.Date.{Date}
use Rattle.record_choice.specs.declared.reasons.Reason.{Reason}
use Rattle.record_choice.specs.declared.reasons.Reason.TheVariants.{NoRecord, Destroyed, Held, NotForDestruction, NotDue}

-- what a schedule says of its records; a class without one keeps them
abbrev pub action_of : Option Schedule → List ℕ
action_of None = codes "permanent"
action_of (Some Permanent) = codes "permanent"
action_of (Some (After n u action.Destroy y)) = codes "destroy"
action_of (Some (After n u action.Review y)) = codes "review"
action_of (Some (After n u action.Transfer y)) = codes "transfer"

abbrev pub hold_words : Vec ℕ Global → List ℕ
hold_words hold = words (codes " ") ++ quotation hold.items

-- words, and a day behind them
unfoldable pub with_day : (what : List ℕ) → Date → List ℕ
with_day what day = words what ++ words (date_text day)

-- a record is due on a later day, or never
abbrev pub not_due_words : Option Date → List ℕ
not_due_words (Some due) = with_day (codes "82: not due before ") due
not_due_words None = words (codes "82: never due")

-- WHY A RECORD MAY NOT BE DESTROYED, after the number of the refusal
abbrev pub reason_words : Reason → List ℕ
reason_words (Held names) = words (codes "81: kept by the holds") ++ flat_map hold_words names.items
reason_words (NotForDestruction schedule) = words (codes "83: the schedule of its class says ") ++ words (action_of schedule)
reason_words (NotDue due) = not_due_words due
reason_words NoRecord = words (codes "80: there is no record of that number")
reason_words Destroyed = words (codes "84: the record is destroyed already")

-- THE RECORD OF A NUMBER MAY NOT BE DESTROYED, and why
unfoldable pub not_approved_words : (volume : Option ℕ) → (number : ℕ) → Reason → List ℕ
not_approved_words volume number why = record_number volume number ++ words (codes ": ") ++ reason_words why

-- THE ARCHIVE REFUSES to change a record: the number of the refusal, and what is said of that
unfoldable pub refusal_words : (volume : Option ℕ) → (number_of_record refusal : ℕ) → (said : List ℕ) → List ℕ
refusal_words volume n refusal said =
    record_number volume n ++ words (codes ": ") ++ number refusal ++ words (codes ": ") ++ words said
