use Rattle.filing_gen.proofs.text_pool.TextPool.into_texts.Goals as goal

pub by_place-requires : goal.by_place-requires
by_place-requires c = c.self.invariant

pub returns-clause-places : goal.returns-clause-places
returns-clause-places c = rw (← c.self.view_is) c.by_place.ensures.places

pub returns-clause-count : goal.returns-clause-count
returns-clause-count c = rw (← c.self.view_is) c.by_place.ensures.count
