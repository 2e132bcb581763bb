use Rattle.std.proofs.Common.{◌≡◌, ◌-◌, map, drop}
use Rattle.record_tables.specs.CodeRows.{hold_entry_of}
use Rattle.record_rows.specs.Tests.{rises_after}
use Rattle.record_rows.proofs.archive_rules.do_holds_rise.Given as goal

abbrev pub invariant-loop-i : goal.invariant-loop-i
invariant-loop-i l = rises_after (map hold_entry_of l.holds) ≡ rises_after (map hold_entry_of (drop (l.i - 1) l.holds))
