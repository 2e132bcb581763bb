use Rattle.std.proofs.Common.{◌≡◌, not, take}
use Rattle.std.specs.Prelude.{filter}
use Rattle.cli_history.specs.Chosen.{meets}
use Rattle.cli_history.proofs.missing.without.Given as goal

abbrev pub invariant-loop-numbers : goal.invariant-loop-numbers
invariant-loop-numbers l = l.rest.items ≡ filter (λ words. not (meets l.first l.last words)) (take l.numbers-index l.typed)
