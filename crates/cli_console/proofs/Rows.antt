-- Rows of what is said of searches and readers.
use Rattle.std.proofs.Common.{◌≡◌, ◌∷◌, ◌++◌, [], true, false, Some, None, Ok, Err, codes, refl, arith}
use Rattle.record_choice.specs.Choices.{Choice, every_record}
use Rattle.record_choice.specs.Entries.{RecordEntry}
use Rattle.cli_console.specs.Failures.{GoesOn, lets_go_on, refused_after}
use Rattle.cli_console.specs.Numbers.{from_to, range_in}
use Rattle.cli_console.specs.Turns.{IsFurther}
use Rattle.cli_console.specs.Finds.{IsAsked, IsFirst}
use Rattle.cli_console.specs.declared.failure.Failure.TheVariants.{Closed, Reported}
use Rattle.cli_console.specs.declared.failure.Status.TheVariants.{BadData, TryAgain}
use Rattle.cli_console.proofs.Ahead.{asked_for}
use Rattle.cli_texts.specs.Words.{number, words}

-- all numbers of a volume, and others
all_of_a_volume : range_in (Some 3) 1 4294967295 ≡ number 3 ++ words (codes "/")
all_of_a_volume = refl

not_all_of_a_volume : range_in (Some 3) 5 9 ≡ from_to (Some 3) 5 9
not_all_of_a_volume = refl

all_of_a_store : range_in None 1 4294967295 ≡ from_to None 1 4294967295
all_of_a_store = refl

-- a walk goes on above where it stood, or not at all
further_up : IsFurther (Some 4) (Some 7)
further_up = omega arith

further_ended : IsFurther (Some 4) None
further_ended = tt

-- a choice of the numbers 4 to 6
abbrev four_to_six : Choice
four_to_six = record every_record { numbers = Some (record { first = 4; last = 6 } ∷ []) }

asked_inside : IsAsked four_to_six 6
asked_inside = refl

not_asked_above : asked_for four_to_six 7 ≡ false
not_asked_above = refl

any_asked : IsAsked every_record 7
any_asked = refl

-- a first page, and what is ahead after it
first_of_two : (e f : RecordEntry) → IsFirst (e ∷ f ∷ []) (Some (e ∷ [])) (f ∷ [])
first_of_two e f = (omega arith, refl)

first_of_none : IsFirst [] None []
first_of_none = refl

-- bad data that was reported lets the next store be done, and no other failure does
bad_data_goes_on : lets_go_on (Reported BadData) ≡ true
bad_data_goes_on = refl

later_is_the_end : lets_go_on (Reported TryAgain) ≡ false
later_is_the_end = refl

end_stays : GoesOn (Err Closed) (Err Closed)
end_stays = refl

refused_before : refused_after true (Ok tt) ≡ true
refused_before = refl

refused_now : refused_after false (Err (Reported BadData)) ≡ true
refused_now = refl
