use Rattle.session_protocol.proofs.Adding.{adds_held, adds_refilled, adds_unflushed, adds_written}
use Rattle.session_protocol.proofs.buffer.buffer_all.Goals as goal

pub returns-then-put : goal.returns-then-put
returns-then-put g c = adds_held _ _ _ _ (rw c.if-put.true at c.put.ensures.added)

pub returns-in_err-flush : goal.returns-in_err-flush
returns-in_err-flush g c =
    adds_unflushed (rw c.if-put.false at c.put.ensures.full) c.from_residual.result _ c.from_residual.ensures.0
    (rw (rw c.if-put.false at c.put.ensures.same) at c.in_err-flush.ensures.writes)

pub returns-then-put-2 : goal.returns-then-put-2
returns-then-put-2 g c =
    adds_refilled (rw c.if-put.false at c.put.ensures.full) (rw (rw c.if-put.false at c.put.ensures.same) at c.in_ok-flush.ensures.writes)
    c.in_ok-flush.ensures.empty (rw c.if-put-2.true at c.put-2.ensures.added)

pub returns : goal.returns
returns g c =
    adds_written (rw c.if-put.false at c.put.ensures.full) (rw (rw c.if-put.false at c.put.ensures.same) at c.in_ok-flush.ensures.writes)
    c.in_ok-flush.ensures.empty (rw c.if-put-2.false at c.put-2.ensures.same) c.write_all.ensures
