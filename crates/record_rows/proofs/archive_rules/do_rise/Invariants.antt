use Rattle.std.proofs.Common.{◌≡◌, drop}
use Rattle.record_rows.specs.Tests.{rises_from}
use Rattle.record_rows.proofs.archive_rules.do_rise.Given as goal

abbrev pub invariant-loop-number : goal.invariant-loop-number
invariant-loop-number l = rises_from 0 l.numbers ≡ rises_from l.least (drop l.number-index l.numbers)
