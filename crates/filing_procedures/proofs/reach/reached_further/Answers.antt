use Rattle.std.proofs.Common.{sym, ◌∙◌}
use Rattle.filing_procedures.proofs.ReachTables.{turn_some, turn_none}
use Rattle.filing_procedures.proofs.reach.reached_further.Goals.{in-Some, in_default}
use Rattle.filing_procedures.proofs.reach.reached_further.Goals as goal

pub loop-slot-preserved : goal.loop-slot-preserved
loop-slot-preserved c = elim c.match-set_at.branch [
  | in-Some w ↦
      rw (w.reached-is) (turn_some c.args.sets.now c.args.row.now c.loop-slot.slot-index w.in-Some.set
      c.loop-slot.reached w.with.result w.union-reached.result c.loop-slot-test.true (sym c.set_at.ensures
      ∙ w.in-Some.is) c.loop-slot.invariant w.with.ensures w.union-reached.ensures)
  | in_default w ↦
      rw (w.reached-is) (turn_none c.args.sets.now c.args.row.now c.loop-slot.slot-index c.loop-slot.reached
      c.loop-slot-test.true (sym c.set_at.ensures ∙ w.in_default.is) c.loop-slot.invariant)
]
