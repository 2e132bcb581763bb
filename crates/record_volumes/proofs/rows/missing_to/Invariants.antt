use Rattle.std.proofs.Common.{◌≡◌}
use Rattle.record_volumes.specs.Rows.{missing_to}
use Rattle.record_volumes.proofs.rows.missing_to.Given as goal

abbrev pub invariant-loop-before : goal.invariant-loop-before
invariant-loop-before l = l.missing.items ≡ missing_to l.before l.found
