use Rattle.std.proofs.Common.{◌≡◌, map, drop}
use Rattle.record_history.specs.Pieces.{with_pieces, joined_of}
use Rattle.record_history.proofs.texts.joined.Given as goal

-- what is joined so far, with the pieces that are left, is all of them
abbrev pub invariant-loop-piece : goal.invariant-loop-piece
invariant-loop-piece l = with_pieces l.text.items (map (λ p. p.now) (drop l.piece-index l.pieces)) ≡ joined_of (map (λ p. p.now) l.pieces)
