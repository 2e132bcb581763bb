use Rattle.record_choice.specs.Reads.{OnlyReads}
use Rattle.cli_console.proofs.search.Search.end_in.Given as goal

abbrev pub invariant-loop-number : goal.invariant-loop-number
invariant-loop-number g l = OnlyReads g.R.Repository.clean g.R.Repository.stands l.fn.archive l.archive
