use Rattle.std.proofs.Common.{◌≡◌, ◌++◌, drop}
use Rattle.cli_choice.specs.Typed.{singles}
use Rattle.cli_choice.proofs.typed.singles_of.Given as goal

abbrev pub invariant-loop-word : goal.invariant-loop-word
invariant-loop-word l = l.numbers.items ++ singles (drop l.word-index l.typed) ≡ singles l.typed
