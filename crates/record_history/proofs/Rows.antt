-- The definitions on worked rows.
use Rattle.std.proofs.Common.{◌≡◌, ℕ, true, false, List, [], ◌∷◌, codes, option_and_then, Some, None, refl}
use Rattle.std.specs.Fmt.{digits}
use Rattle.class_plan.specs.declared.schedules.Action.TheVariants.{Destroy, Review}
use Rattle.class_plan.specs.declared.schedules.Schedule.TheVariants.{Permanent, After}
use Rattle.class_plan.specs.declared.schedules.Unit.TheVariants.{Days, Years}
use Rattle.class_plan.specs.Plans.{Listing, open_row}
use Rattle.record_archive.specs.Archive.{empty_archive}
use Rattle.record_history.specs.Events.{Event, Deed, Seal, Filing}
use Rattle.record_history.specs.Events.{Captured, Held, Released, Destroyed, ClassAdded, PlanReplaced, FoundPlan, FoundMessage, FoundRecord}
use Rattle.record_history.specs.Events.{ReasonsRequired, ReasonsOptional, FindingsAccepted, Refiled, Titled}
use Rattle.record_history.specs.Lines.{day_text, moment_text, line_of}
use Rattle.record_history.specs.Replay.{after, replay}

-- what ann did at 2031-01-01T09:30:00Z
abbrev done : Deed → Event
done deed = record { moment = 1925026200; who = codes "ann"; deed = deed; notes = []; reason = [] }

written : ℕ → Event → List ℕ
unfolding moment_text day_text digits
written n e = line_of n e

held : written 17 (record (done (Held (codes "audit") 1)) { reason = codes "order 12/3" })
    ≡ codes "17 2031-01-01T09:30:00Z ann held audit 1 : order 12/3"
unfolding written
held = refl

-- a name that looks like the sign of a reason is no sign
colons : written 1 (record (done (Held (codes ":") 1)) { who = codes ":"; reason = codes "a : b" })
    ≡ codes "1 2031-01-01T09:30:00Z : held : 1 : a : b"
unfolding written
colons = refl

noted : written 2 (record (done (Released (codes "audit") 4294967295)) { notes = codes "file=a.eml;dated=received" })
    ≡ codes "2 2031-01-01T09:30:00Z ann released audit 4294967295 file=a.eml;dated=received"
unfolding written
noted = refl

abbrev a_seal : Seal
a_seal = record { octets = 17; sum = codes "0a" }

abbrev a_filing : Filing
a_filing = record { officer = codes "post"; rules = codes "ff" }

captured : written 3 (done (Captured 5 a_seal 22280 (Some a_filing) (codes "finance/tax" ∷ codes "rent" ∷ [])))
    ≡ codes "3 2031-01-01T09:30:00Z ann captured 5 on 2031-01-01 message 17 0a by post rules ff in finance/tax,rent"
unfolding written
captured = refl

given : written 4 (done (Captured 7 a_seal 22280 None (codes "rent" ∷ [])))
    ≡ codes "4 2031-01-01T09:30:00Z ann captured 7 on 2031-01-01 message 17 0a in rent"
unfolding written
given = refl

destroyed : written 5 (done (Destroyed 5 22280 (After 7 Years Destroy true)))
    ≡ codes "5 2031-01-01T09:30:00Z ann destroyed 5 as due by 2031-01-01 (7 years destroy year-end)"
unfolding written
destroyed = refl

refiled : written 17 (done (Refiled 17 (codes "staff/reviewed"))) ≡ codes "17 2031-01-01T09:30:00Z ann refiled 17 to staff/reviewed"
unfolding written
refiled = refl

abbrev a_plan : Listing
a_plan = record {
  root = After 30 Days Review false;
  rows = record { path = codes "rent"; is_open = false; schedule = Some Permanent } ∷ open_row (codes "unfiled") ∷ [];
}

planned : written 6 (done (PlanReplaced a_plan))
    ≡ codes "6 2031-01-01T09:30:00Z ann replaced plan (root 30 days review; closed rent, permanent; unfiled)"
unfolding written
planned = refl

added : written 7 (done (ClassAdded (codes "finance"))) ≡ codes "7 2031-01-01T09:30:00Z ann added class finance"
unfolding written
added = refl

-- the title and the legal basis have spaces; notes and a reason may follow them
titled : written 7 (record (done (Titled (codes "finance/tax") (codes "Tax documents") (codes "AO 147"))) { reason = codes "order 12/3" })
    ≡ codes "7 2031-01-01T09:30:00Z ann titled finance/tax 13:Tax documents 6:AO 147 : order 12/3"
unfolding written
titled = refl

untitled : written 8 (done (Titled (codes "rent") [] [])) ≡ codes "8 2031-01-01T09:30:00Z ann titled rent 0: 0:"
unfolding written
untitled = refl

required : written 7 (record (done ReasonsRequired) { reason = codes "order 12/3" })
    ≡ codes "7 2031-01-01T09:30:00Z ann made reasons required : order 12/3"
unfolding written
required = refl

optional : written 8 (done ReasonsOptional) ≡ codes "8 2031-01-01T09:30:00Z ann made reasons optional"
unfolding written
optional = refl

accepted : written 9 (record (done FindingsAccepted) { reason = codes "seen with ben" })
    ≡ codes "9 2031-01-01T09:30:00Z ann accepted findings : seen with ben"
unfolding written
accepted = refl

found : written 8 (done (FoundRecord (record { number = 5; message = 4; path = codes "rent"; day = 22280; destroyed = true })))
    ≡ codes "8 2031-01-01T09:30:00Z ann found record 5 of message 4 in rent on 2031-01-01 destroyed"
unfolding written
found = refl

found_message : written 9 (done (FoundMessage 4 a_seal)) ≡ codes "9 2031-01-01T09:30:00Z ann found message 4 17 0a"
unfolding written
found_message = refl

-- neither titles nor whether reasons are required nor that findings are accepted changes anything
nothing_changed : replay (done (Titled (codes "rent") (codes "Rent") []) ∷ done ReasonsRequired ∷ done ReasonsOptional ∷ done FindingsAccepted ∷ [])
    empty_archive ≡ Some empty_archive
nothing_changed = refl

-- a hold of a record that is not there is refused, and so is a capture with another first number
no_record : replay (done (Held (codes "audit") 1) ∷ []) empty_archive ≡ None
no_record = refl

-- a record that is not there is not refiled; one that is there gets the class, also a closed one, if it is a class
refiled_nowhere : replay (done (Refiled 1 (codes "unfiled")) ∷ []) empty_archive ≡ None
refiled_nowhere = refl

abbrev one_record : List ℕ → List Event
one_record path = done (FoundPlan a_plan)
    ∷ done (FoundRecord (record { number = 1; message = 1; path = path; day = 22280; destroyed = false })) ∷ []

refiled_there : option_and_then (after (Refiled 1 (codes "rent"))) (replay (one_record (codes "unfiled")) empty_archive)
    ≡ replay (one_record (codes "rent")) empty_archive
refiled_there = refl

refiled_to_no_class : option_and_then (after (Refiled 1 (codes "tax"))) (replay (one_record (codes "unfiled")) empty_archive) ≡ None
refiled_to_no_class = refl

other_number : after (Captured 2 a_seal 22280 None (codes "unfiled" ∷ [])) empty_archive ≡ None
other_number = refl
