-- What the rule `if TEST { keep; } else { discard; }` makes of a message.
use Rattle.std.proofs.Common.{◌≡◌, ℕ, Bool, true, false, List, [], ◌∷◌, Option, None, refl, ap, ◌∙◌, if◌then◌else◌}
use Rattle.class_paths.specs.Path.{unfiled}
use Rattle.sieve_syntax.specs.Tree.{TestTree}
use Rattle.sieve_meaning.specs.Case.{Facts}
use Rattle.sieve_meaning.specs.Meaning.{Ending, GoesOn, Library, Filing, opening, and_then}
use Rattle.sieve_meaning.specs.Outcome.{outcome_of}
use Rattle.sieve_meaning.specs.declared.outcome.Outcome.{Outcome}
use Rattle.sieve_meaning.specs.Reading.{test_in}
use Rattle.sieve_meaning.specs.Words.{command_word}
use Rattle.sieve_meaning.specs.Truth.{truth}
use Rattle.mail_case.specs.Message.{case_of}
use Rattle.promises.specs.QuestionLaws.{FindsWhatIsKept}
use Rattle.record_question.specs.Questions.{no_class}
use Rattle.promises.proofs.BlindTests.{same_truth}

-- the outcome where the test has this answer
abbrev outcome_by : Bool → Outcome
outcome_by b = record { classes = if b then unfiled ∷ [] else []; fault = None }

by_cases : (known_as : Option (List ℕ)) (b : Bool)
    → outcome_of (and_then (if b then GoesOn (record (opening known_as) { kept = true }) else GoesOn (record (opening known_as) { cancelled = true }))
    (λ f. GoesOn f))
    ≡ outcome_by b
by_cases known_as true = refl
by_cases known_as false = refl

pub finds_what_is_kept : FindsWhatIsKept
unfolding command_word
finds_what_is_kept message is_open library known_as t =
    by_cases known_as (truth (case_of message is_open) (test_in t))
    ∙ ap outcome_by (same_truth message is_open no_class (test_in t))
