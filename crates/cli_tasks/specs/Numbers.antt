-- What is typed of an archive of volumes: how numbers are refused, and what is asked of one of them.
use Rattle.std.specs.Prelude.{◌≡◌, ℕ, Option, Some, None, IfSome}
use Rattle.choice_words.specs.Typed.{numbers_for}
use Rattle.choice_words.specs.declared.choice.Choice.{Choice}
use Rattle.choice_words.specs.declared.numbers.TypedNumbers.{TypedNumbers}
use Rattle.choice_words.specs.declared.typed.TypedChoice.{TypedChoice}
use Rattle.cli_choice.specs.TypedVolumes.{IsChoiceIn}
use Rattle.cli_console.specs.Failures.{IsToldAs}
use Rattle.cli_console.specs.declared.failure.Failure.{Failure}
use Rattle.cli_console.specs.declared.failure.Status.TheVariants.{BadData, Usage}

-- A NUMBER WITHOUT A VOLUME is wrong use; where there is none, a volume is missing, which is bad data
abbrev pub IsRefusedIn : (first_alone : Option TypedNumbers) → Failure → Type 0
IsRefusedIn (Some numbers) failure = IsToldAs Usage failure
IsRefusedIn None failure = IsToldAs BadData failure

-- the choice for a volume, of what is typed of all of them: it asks for those of its records that are chosen of all, and its numbers are
-- those that are typed with it; none where none of its records is chosen
pub record IsChoiceTyped (typed : TypedChoice) (volume : ℕ) (choice : Option Choice) : Type 0 where
  pub chosen : IsChoiceIn typed volume choice
  pub numbers : IfSome choice (λ (c : Choice). c.numbers.items ≡ numbers_for volume typed.of_volumes.items)
