use Rattle.std.proofs.Common.{◌↔◌, take}
use Rattle.sieve_meaning.specs.Matching.{items_of}
use Rattle.sieve_match.specs.Pieces.{FitsFront}
use Rattle.sieve_match.proofs.places.fits_front.Given as goal

abbrev pub invariant-items : goal.invariant-items
invariant-items l =
    FitsFront l.comparator (take l.count (items_of l.pattern)) l.text
    ↔ FitsFront l.comparator (take l.left (items_of l.items)) l.rest

abbrev pub decreases-items : goal.decreases-items
decreases-items l = l.left
