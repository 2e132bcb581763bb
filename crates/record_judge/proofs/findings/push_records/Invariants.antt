use Rattle.std.proofs.Common.{◌≡◌, ◌++◌, map, take}
use Rattle.record_history.specs.Views.{deed_view}
use Rattle.record_judge.specs.Findings.{found_record}
use Rattle.record_judge.proofs.findings.push_records.Given as goal

abbrev pub invariant-loop-row : goal.invariant-loop-row
invariant-loop-row l = map deed_view l.deeds.items ≡ map deed_view l.initial.deeds.items ++ map found_record (take l.row-index l.records)
