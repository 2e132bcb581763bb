use Rattle.std.proofs.Common.{◌++◌, List, ℕ}
use Rattle.record_archive.specs.Archive.{Archive}
use Rattle.record_choice.specs.Reads.{OnlyReads}
use Rattle.cli_readings.specs.Groups.{KeyedGroup}
use Rattle.cli_readings.specs.VolumeTwice.{HaveRows}
use Rattle.cli_readings.proofs.volume_twice.TwiceList.add_volume.Given as goal

abbrev pub invariant-loop-group : goal.invariant-loop-group
invariant-loop-group g l = record {
  reads : OnlyReads g.R.Repository.clean g.R.Repository.stands l.fn.archive l.archive;
  kept : g.R.Repository.clean l.archive → (kept : ℕ → Archive) → g.R.Repository.stands l.fn.archive (kept l.volume)
      → (gs : List KeyedGroup) → HaveRows kept l.fn.self.listing gs l.fn.self.groups.items
      → HaveRows kept l.fn.self.listing gs (l.added.items ++ l.group-iterator.rest.items);
}
