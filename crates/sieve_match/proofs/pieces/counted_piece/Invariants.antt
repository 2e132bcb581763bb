use Rattle.std.proofs.Common.{◌≡◌, ◌≤◌, length, take, drop}
use Rattle.sieve_meaning.specs.Matching.{items_of}
use Rattle.sieve_match.specs.declared.pieces.Shape.TheVariants.{Plain}
use Rattle.sieve_match.specs.Pieces.{IsStarless}
use Rattle.sieve_match.proofs.pieces.counted_piece.Given as goal

abbrev pub invariant-items : goal.invariant-items
invariant-items l = record {
  left : drop l.count (items_of l.pattern) ≡ items_of l.rest;
  within : l.count ≤ length (items_of l.pattern);
  starless : IsStarless (take l.count (items_of l.pattern));
  shape : l.shape ≡ Plain → ⊥;
}

abbrev pub decreases-items : goal.decreases-items
decreases-items l = length (items_of l.rest)
