use Rattle.std.proofs.Common.{take}
use Rattle.std.specs.List.{AllByRecursion}
use Rattle.jiff.specs.Words.{epoch_day}
use Rattle.record_archive.specs.Archive.{Archive}
use Rattle.record_choice.specs.Reads.{OnlyReads}
use Rattle.record_choice.specs.Reasons.{MayGo}
use Rattle.record_choice.proofs.disposal.judge_each.Given as goal

abbrev pub invariant-loop-number : goal.invariant-loop-number
invariant-loop-number g l = record {
  reads : OnlyReads g.R.Repository.clean g.R.Repository.stands l.fn.records l.records;
  all : g.R.Repository.clean l.records → (a : Archive) → g.R.Repository.stands l.fn.records a
      → AllByRecursion (MayGo a (epoch_day l.day)) (take l.number-index l.numbers);
}
