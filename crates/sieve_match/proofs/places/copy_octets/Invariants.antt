use Rattle.std.proofs.Common.{◌≡◌, map, take, drop}
use Rattle.sieve_meaning.specs.declared.matching.Item.TheVariants.{Octet}
use Rattle.sieve_meaning.specs.Matching.{items_of}
use Rattle.sieve_match.proofs.places.copy_octets.Given as goal

abbrev pub invariant-loop-octet : goal.invariant-loop-octet
invariant-loop-octet l = record {
  copied : take l.octet-index (items_of l.pattern) ≡ map Octet (take l.octet-index l.key);
  left : drop l.octet-index (items_of l.pattern) ≡ items_of l.items;
}
