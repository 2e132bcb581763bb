use Rattle.std.proofs.Common.{List, ℕ, ap, ◌∙◌}
use Rattle.filing_procedures.specs.ReachTables.{further}
use Rattle.filing_procedures.proofs.ReachTables.{round_turn}
use Rattle.filing_procedures.proofs.reach.reached_round.Goals as goal

pub loop-row-preserved : goal.loop-row-preserved
loop-row-preserved c =
    round_turn c.args.rows.now c.loop-row.row-index c.row-item.result c.args.sets.now c.loop-row.next.items
    c.push.new.self.items c.reached_further.result c.loop-row-test.true c.row-item.is c.loop-row.invariant
    (λ k. c.reached_further.ensures k ∙ ap (λ (row : List ℕ). further c.args.sets.now row k) c.deref.ensures.value) c.in_ok-push.ensures.items
