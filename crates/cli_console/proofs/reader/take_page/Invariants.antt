use Rattle.std.proofs.Common.{take}
use Rattle.record_archive.specs.Archive.{Archive}
use Rattle.record_choice.specs.Reads.{OnlyReads}
use Rattle.cli_console.specs.Headers.{AreBeside}
use Rattle.cli_console.proofs.reader.take_page.Given as goal

abbrev pub invariant-loop-at : goal.invariant-loop-at
invariant-loop-at g l = record {
  reads : OnlyReads g.R.Repository.clean g.R.Repository.stands l.fn.archive l.archive;
  taken : g.R.Repository.clean l.archive → (a : Archive) → g.R.Repository.stands l.fn.archive a
      → AreBeside a l.entries l.headers → g.K.Reader.takes l.fn.reader a (take l.at l.entries) l.reader;
}
