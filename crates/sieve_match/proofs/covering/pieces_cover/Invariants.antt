use Rattle.std.proofs.Common.{◌↔◌, ◌≤◌, ◌∷◌, length}
use Rattle.sieve_meaning.specs.declared.matching.Item.TheVariants.{Any}
use Rattle.sieve_meaning.specs.Matching.{items_of, Matches}
use Rattle.sieve_match.proofs.covering.pieces_cover.Given as goal

abbrev pub invariant-pieces : goal.invariant-pieces
invariant-pieces l = record {
  same : Matches l.comparator (items_of l.pattern) l.value ↔ Matches l.comparator (Any ∷ items_of l.items) l.rest;
  short : length l.rest ≤ length l.value;
}

abbrev pub decreases-pieces : goal.decreases-pieces
decreases-pieces l = length (items_of l.items)
