use Rattle.filing_gen.specs.Pools.{octets_of, texts_in}
use Rattle.filing_gen.proofs.Pools.{IsPlaced}
use Rattle.filing_gen.proofs.text_pool.by_place.Given as goal

abbrev pub invariant-loop-text : goal.invariant-loop-text
invariant-loop-text l = IsPlaced (texts_in l.fn.places.entries) (texts_in l.text-iterator) (octets_of l.texts.items)
