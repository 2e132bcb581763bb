use Rattle.std.proofs.Common.{take}
use Rattle.record_archive.specs.Archive.{Archive}
use Rattle.record_choice.specs.Reads.{OnlyReads}
use Rattle.cli_readings.specs.Twice.{AddsGroups, IsBeside}
use Rattle.cli_readings.proofs.twice.write_groups.Given as goal

abbrev pub invariant-loop-keyed : goal.invariant-loop-keyed
invariant-loop-keyed g l = record {
  reads : OnlyReads g.R.Repository.clean g.R.Repository.stands l.fn.archive l.archive;
  added : g.R.Repository.clean l.archive → (a : Archive) → g.R.Repository.stands l.fn.archive a
      → AddsGroups g.K.Sink.written (IsBeside a l.fn.list.listing) l.fn.list (take l.keyed-index l.groups) l.list;
}
