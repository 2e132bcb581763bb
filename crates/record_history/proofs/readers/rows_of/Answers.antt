use Rattle.std.proofs.Common.{[]}
use Rattle.class_plan.specs.Schedules.{IsInRangeIfAny}
use Rattle.record_history.proofs.RowLemmas.{rows_more, range_more, rows_fail, rows_end}
use Rattle.record_history.proofs.readers.rows_of.Goals as goal

pub loop-part-preserved : goal.loop-part-preserved
loop-part-preserved c = record {
  rows =
      rows_more c.loop-part.rows.items c.push.new.self.items _ c.args.parts.now c.loop-part.part-index (record { ref_ptr = (0, 0); now = [] }) _
      c.in_ok-push-in-Ok.ensures.items c.loop-part-test.true c.in-Ok.ensures.row c.loop-part.invariant.rows;
  range =
      range_more (λ r. IsInRangeIfAny r.schedule) c.loop-part.rows.items c.push.new.self.items _ c.in_ok-push-in-Ok.ensures.items
      c.loop-part.invariant.range c.in-Ok.ensures.range;
}

pub returns-clause-rows : goal.returns-clause-rows
returns-clause-rows c = rows_end _ c.args.parts.now c.loop-part.part-index _ c.loop-part-test.false c.loop-part.invariant.rows

pub returns-in-Err-clause-rows : goal.returns-in-Err-clause-rows
returns-in-Err-clause-rows c =
    rows_fail c.in-Err.fault _ c.args.parts.now c.loop-part.part-index (record { ref_ptr = (0, 0); now = [] }) _ c.loop-part-test.true
    c.in-Err.ensures.row c.loop-part.invariant.rows
