use Rattle.std.proofs.Common.{arith, []}
use Rattle.session_protocol.proofs.Adding.{adds_all, adds_cut, adds_next, adds_nothing}
use Rattle.session_protocol.proofs.buffer.buffer_pieces.Goals as goal

pub loop-piece-init : goal.loop-piece-init
loop-piece-init g c = adds_nothing _ _

pub loop-piece-preserved : goal.loop-piece-preserved
loop-piece-preserved g c =
    adds_next (λ p. p.now) c.args.pieces.now c.loop-piece.piece-index (record { ref_ptr = (0, 0); now = [] }) (omega arith)
    c.loop-piece.invariant c.in_ok-buffer_all.ensures

pub returns-in_err-buffer_all : goal.returns-in_err-buffer_all
returns-in_err-buffer_all g c =
    adds_cut (λ p. p.now) c.args.pieces.now c.loop-piece.piece-index c.from_residual.result (record { ref_ptr = (0, 0); now = [] })
    (omega arith) c.from_residual.ensures.0 c.loop-piece.invariant c.in_err-buffer_all.ensures

pub returns : goal.returns
returns g c = adds_all (λ p. p.now) c.args.pieces.now c.loop-piece.piece-index (omega arith) c.loop-piece.invariant
