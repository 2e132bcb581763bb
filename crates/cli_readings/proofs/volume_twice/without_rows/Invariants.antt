use Rattle.std.proofs.Common.{◌≡◌, ◌++◌, List, ℕ}
use Rattle.command_lines.specs.declared.archives.Listing.{Listing}
use Rattle.record_archive.specs.Archive.{Archive}
use Rattle.cli_readings.specs.Groups.{KeyedGroup}
use Rattle.cli_readings.specs.VolumeTwice.{HaveRows}
use Rattle.cli_readings.proofs.volume_twice.without_rows.Given as goal

abbrev pub invariant-loop-keyed : goal.invariant-loop-keyed
invariant-loop-keyed l =
    (done : List KeyedGroup) × ((kept : ℕ → Archive) (asked : Listing) → HaveRows kept asked done l.groups.items)
    × (done ++ l.keyed-iterator.rest.items ≡ l.fn.twice.items)
