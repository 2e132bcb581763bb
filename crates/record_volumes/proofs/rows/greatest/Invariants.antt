use Rattle.std.proofs.Common.{◌≡◌, drop}
use Rattle.record_volumes.specs.Rows.{greatest}
use Rattle.record_volumes.proofs.rows.greatest.Given as goal

abbrev pub invariant-loop-number : goal.invariant-loop-number
invariant-loop-number l = greatest l.most (drop l.number-index l.found) ≡ greatest l.fn.begun l.fn.found
