use Rattle.record_reads.proofs.TypedLemmas.{zip_next}
use Rattle.record_reads.proofs.typed.rows_in.Goals as goal

pub loop-row-preserved : goal.loop-row-preserved
loop-row-preserved g c =
    rw c.in_ok-push.ensures.items
    (zip_next g.T.FromRow.reads c.args.rows.now c.loop-row.all.items c.row-item.result c.in_ok-one.one
    c.loop-row.row-index c.loop-row-test.true c.row-item.is c.loop-row.invariant c.in_ok-one.ensures.ok)
