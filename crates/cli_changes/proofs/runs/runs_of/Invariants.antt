use Rattle.std.proofs.Common.{◌≡◌, take}
use Rattle.std.specs.List.{AllByRecursion}
use Rattle.record_archive.specs.Archive.{Archive}
use Rattle.record_choice.specs.Reads.{OnlyReads}
use Rattle.cli_changes.specs.Runs.{AreFilled, IsJudged, IsNoted, noted, records_of}
use Rattle.cli_changes.proofs.runs.runs_of.Given as goal

abbrev pub invariant-loop-number : goal.invariant-loop-number
invariant-loop-number g l = record {
  reads : OnlyReads g.R.Repository.clean g.R.Repository.stands l.fn.archive l.archive;
  these : records_of l.runs.items ≡ take l.number-index l.number-items;
  filled : AreFilled l.runs.items;
  noted : g.R.Repository.clean l.archive → (a : Archive) → g.R.Repository.stands l.fn.archive a
      → AllByRecursion (IsNoted l.seals a) (noted l.runs.items) × IsJudged l.seals a l.last;
}
