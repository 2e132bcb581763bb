use Rattle.cli_changes.specs.Imports.{Finds}
use Rattle.cli_changes.proofs.import.take_each.Given as goal

abbrev pub invariant-loop-source : goal.invariant-loop-source
invariant-loop-source g l = Finds g.A.Records.keeper l.terms l.fn.room l.fn.progress l.room l.progress
