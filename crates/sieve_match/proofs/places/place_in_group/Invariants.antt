use Rattle.std.proofs.Common.{◌≡◌, ◌-◌, ◌≤◌, length, take, drop}
use Rattle.sieve_meaning.specs.Matching.{items_of}
use Rattle.sieve_match.specs.Pieces.{FitsAt}
use Rattle.sieve_match.proofs.GroupLemmas.{HasFlags}
use Rattle.sieve_match.proofs.places.place_in_group.Given as goal

abbrev pub invariant-items : goal.invariant-items
invariant-items l = record {
  long : length l.fits ≡ length l.fn.fits;
  done : l.offset ≤ l.count;
  left : drop l.offset (items_of l.pattern) ≡ items_of l.items;
  flags : HasFlags (FitsAt l.comparator (take l.offset (items_of l.pattern)) l.text) l.fits;
}

abbrev pub decreases-items : goal.decreases-items
decreases-items l = l.count - l.offset
