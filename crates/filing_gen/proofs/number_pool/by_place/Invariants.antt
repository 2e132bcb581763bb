use Rattle.filing_gen.proofs.Pools.{IsPlaced}
use Rattle.filing_gen.proofs.number_pool.by_place.Given as goal

abbrev pub invariant-loop-number : goal.invariant-loop-number
invariant-loop-number l = IsPlaced l.fn.places.entries l.number-iterator l.numbers.items
