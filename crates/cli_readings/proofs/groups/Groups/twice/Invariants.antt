use Rattle.std.proofs.Common.{◌≡◌, ◌++◌, filter}
use Rattle.cli_readings.specs.Groups.{twice_in, was_twice}
use Rattle.cli_readings.proofs.groups.Groups.twice.Given as goal

abbrev pub invariant-loop-keyed : goal.invariant-loop-keyed
invariant-loop-keyed l = l.twice.items ++ filter was_twice l.keyed-iterator ≡ twice_in l.fn.self.groups
