use Rattle.std.proofs.Common.{arith, []}
use Rattle.std.proofs.lemmas.List.Folds.{length-flat_map-take}
use Rattle.filing_desk.proofs.messages.length_of.Goals as goal

pub returns-then-piece-octets : goal.returns-then-piece-octets
returns-then-piece-octets c =
    let more = length-flat_map-take (λ p. p.now) c.args.pieces.now c.loop-piece.piece-index (record { ref_ptr = (0, 0); now = [] }) (omega arith) in
    let so_far = c.loop-piece.invariant in
    omega (arith, so_far.0, so_far.1, more)
