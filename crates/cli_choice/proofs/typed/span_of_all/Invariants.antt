use Rattle.std.proofs.Common.{◌≡◌, ◌∷◌, ℕ, take, true}
use Rattle.record_choice.specs.Choices.{is_in}
use Rattle.record_choice.specs.Views.{span_view}
use Rattle.cli_choice.specs.Typed.{is_among}
use Rattle.cli_choice.proofs.typed.span_of_all.Given as goal

abbrev pub invariant-loop-numbers : goal.invariant-loop-numbers
invariant-loop-numbers l =
    (n : ℕ) → is_among (l.fn.first ∷ take l.numbers-index l.others) n ≡ true → is_in n (span_view l.span) ≡ true
