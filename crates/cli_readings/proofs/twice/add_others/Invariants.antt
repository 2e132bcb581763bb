use Rattle.std.proofs.Common.{false, take}
use Rattle.record_archive.specs.Archive.{Archive}
use Rattle.record_choice.specs.Reads.{OnlyReads}
use Rattle.cli_readings.specs.Twice.{AddsBeside}
use Rattle.cli_readings.proofs.twice.add_others.Given as goal

abbrev pub invariant-loop-other : goal.invariant-loop-other
invariant-loop-other g l = record {
  reads : OnlyReads g.R.Repository.clean g.R.Repository.stands l.fn.archive l.archive;
  added : g.R.Repository.clean l.archive → (a : Archive) → g.R.Repository.stands l.fn.archive a
      → AddsBeside g.K.Sink.written l.beside false l.fn.list a (take l.other-index l.others) l.list;
}
