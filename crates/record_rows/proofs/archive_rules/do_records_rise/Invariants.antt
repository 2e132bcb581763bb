use Rattle.std.proofs.Common.{◌≡◌, map, drop}
use Rattle.record_rows.specs.Tests.{rises_from}
use Rattle.record_rows.proofs.archive_rules.do_records_rise.Given as goal

abbrev pub invariant-loop-record : goal.invariant-loop-record
invariant-loop-record l = rises_from 0 (map (λ r. r.number) l.records) ≡ rises_from l.least (map (λ r. r.number) (drop l.record-index l.records))
