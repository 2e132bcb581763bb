-- What is printed of a history, on worked rows.
use Rattle.std.proofs.Common.{◌≡◌, ◌++◌, ◌∷◌, [], ℕ, List, true, false, Option, Some, None, codes, refl}
use Rattle.std.specs.Fmt.{digits}
use Rattle.choice_words.specs.declared.numbers.TypedNumbers.{TypedNumbers}
use Rattle.choice_words.specs.declared.numbers.TypedNumbers.TheVariants.{One}
use Rattle.class_plan.specs.Plans.{first_plan}
use Rattle.record_history.specs.Events.{Deed, Event, Held, Released, Refiled, FoundHold, FoundPlan, ReasonsRequired}
use Rattle.record_history.specs.Lines.{deed_text}
use Rattle.cli_texts.specs.HistoryLines.{line_in}
use Rattle.cli_history.specs.Printed.{head_unless, number_places, there_last}

-- the line of an event of volume 3
abbrev line : Deed → List ℕ
line deed = line_in (Some 3) (number_places deed) (codes "17 2031-01-01T09:30:00Z ann " ++ deed_text deed)

held : line (Held (codes "audit") 4) ≡ codes "3/17 2031-01-01T09:30:00Z ann held audit 3/4"
unfolding digits
held = refl

-- a hold may be called as a number
released : line (Released (codes "12") 4) ≡ codes "3/17 2031-01-01T09:30:00Z ann released 12 3/4"
unfolding digits
released = refl

refiled : line (Refiled 4 (codes "finance/tax")) ≡ codes "3/17 2031-01-01T09:30:00Z ann refiled 3/4 to finance/tax"
unfolding digits
refiled = refl

found : line (FoundHold (codes "audit") 4) ≡ codes "3/17 2031-01-01T09:30:00Z ann found hold audit 3/4"
unfolding digits
found = refl

about_no_record : line ReasonsRequired ≡ codes "3/17 2031-01-01T09:30:00Z ann made reasons required"
unfolding digits
about_no_record = refl

-- ---- which records are there

abbrev event : Deed → Option Event
event deed = Some (record { moment = 0; who = codes "ann"; deed = deed; notes = []; reason = [] })

abbrev fourth : List TypedNumbers
fourth = One 4 ∷ []

is_there : there_last fourth false (event ReasonsRequired ∷ event (Held (codes "audit") 4) ∷ None ∷ []) ≡ true
is_there = refl

another_is : there_last fourth false (event (Held (codes "audit") 5) ∷ []) ≡ false
another_is = refl

begun_anew : there_last fourth true (event (FoundPlan first_plan) ∷ []) ≡ false
begun_anew = refl

-- ---- what stands before events

heads : (head_unless false true ≡ codes "[") × (head_unless true true ≡ []) × (head_unless false false ≡ [])
heads = (refl, refl, refl)
