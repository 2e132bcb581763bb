use Rattle.std.proofs.Common.{ℕ}
use Rattle.record_archive.specs.Archive.{Archive}
use Rattle.record_choice.specs.Reads.{OnlyReads}
use Rattle.cli_readings.specs.VolumeTwice.{KeepsRows}
use Rattle.cli_readings.proofs.volume_twice.add_rows.Given as goal

abbrev pub invariant-loop : goal.invariant-loop
invariant-loop g l = record {
  reads : OnlyReads g.R.Repository.clean g.R.Repository.stands l.fn.archive l.archive;
  kept : g.R.Repository.clean l.archive → (kept : ℕ → Archive) → g.R.Repository.stands l.fn.archive (kept l.volume)
      → KeepsRows kept l.listing l.fn.rows l.rows;
}
