use Rattle.std.proofs.Common.{◌≡◌, List, ℕ}
use Rattle.cli_volumes.specs.Rows.{volumes_in}
use Rattle.cli_volumes.proofs.row.volumes_named.Given as goal

abbrev pub invariant-loop-entry : goal.invariant-loop-entry
invariant-loop-entry l = (names : List (List ℕ)) × (l.volumes.items ≡ volumes_in names)
