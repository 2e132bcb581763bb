use Rattle.std.proofs.Common.{◌≡◌, map, drop}
use Rattle.std.specs.Prelude.{All}
use Rattle.class_plan.specs.Parts.{answer_row}
use Rattle.class_plan.specs.Schedules.{IsInRangeIfAny}
use Rattle.record_history.specs.Reading.{rows_of}
use Rattle.record_history.specs.RowsLeft.{with_rows}
use Rattle.record_history.proofs.readers.rows_of.Given as goal

-- the classes so far, with those of the parts that are left, are all of them
abbrev pub invariant-loop-part : goal.invariant-loop-part
invariant-loop-part l = record {
  rows : with_rows (map answer_row l.rows.items) (rows_of (map (λ p. p.now) (drop l.part-index l.parts))) ≡ rows_of (map (λ p. p.now) l.parts);
  range : All (λ r. IsInRangeIfAny r.schedule) (map answer_row l.rows.items);
}
