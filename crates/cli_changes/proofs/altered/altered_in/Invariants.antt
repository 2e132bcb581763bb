use Rattle.std.proofs.Common.{◌≡◌, ◌++◌, drop}
use Rattle.cli_changes.specs.Runs.{altered}
use Rattle.cli_changes.proofs.altered.altered_in.Given as goal

abbrev pub invariant-loop-run : goal.invariant-loop-run
invariant-loop-run l = l.altered.items ++ altered (drop l.run-index l.runs) ≡ altered l.runs
