use Rattle.std.proofs.Common.{Ok, take}
use Rattle.std.specs.Prelude.{flat_map}
use Rattle.session_protocol.specs.Written.{Adds}
use Rattle.session_protocol.proofs.buffer.buffer_pieces.Given as goal

abbrev pub invariant-loop-piece : goal.invariant-loop-piece
invariant-loop-piece g l = Adds g.K.Sink (Ok tt) l.fn.sink l.fn.buffer (flat_map (λ p. p.now) (take l.piece-index l.pieces)) l.sink l.buffer
