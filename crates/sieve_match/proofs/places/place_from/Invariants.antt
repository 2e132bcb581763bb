use Rattle.std.proofs.Common.{◌+◌, ◌-◌, ◌≤◌, length, take}
use Rattle.memchr.specs.Find.{Nowhere}
use Rattle.sieve_meaning.specs.Matching.{items_of}
use Rattle.sieve_match.specs.Pieces.{FitsAt}
use Rattle.sieve_match.proofs.places.place_from.Given as goal

abbrev pub invariant-groups : goal.invariant-groups
invariant-groups l = record {
  within : l.at + l.count ≤ length l.text + 1;
  passed : Nowhere (FitsAt l.comparator (take l.count (items_of l.pattern)) l.text) 0 l.at;
}

abbrev pub decreases-groups : goal.decreases-groups
decreases-groups l = length l.text + 1 - l.at
