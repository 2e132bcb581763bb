use Rattle.record_choice.specs.Reads.{OnlyReads}
use Rattle.cli_changes.proofs.passed_over.passed_of.Given as goal

abbrev pub invariant-loop : goal.invariant-loop
invariant-loop g l = OnlyReads g.R.Repository.clean g.R.Repository.stands l.fn.archive l.archive
