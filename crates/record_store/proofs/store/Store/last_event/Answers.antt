use Rattle.std.proofs.Common.{refl, ap, sym, ◌∙◌, Err}
use Rattle.record_archive.specs.Faults.{is_trouble}
use Rattle.record_store.proofs.EventLemmas.{trouble_of, own_is_lost, reads_beside}
use Rattle.record_store.proofs.store.Store.last_event.Goals as goal

pub returns-in-Ok-clause-beside : goal.returns-in-Ok-clause-beside
returns-in-Ok-clause-beside g c =
    reads_beside g.S.Store c.args.self.now c.last_event.new.conn _ c.last_event.ensures.looks (λ clean. c.in-Ok.ensures.open clean) (tt {0})

pub returns-in-Err-clause-beside : goal.returns-in-Err-clause-beside
returns-in-Err-clause-beside g c =
    reads_beside g.S.Store c.args.self.now c.last_event.new.conn _ c.last_event.ensures.looks (λ clean. tt {0})
    (ap is_trouble c.lost_or.ensures ∙ trouble_of c.in-Err.fault)

pub returns-in-Err-clause-lost : goal.returns-in-Err-clause-lost
returns-in-Err-clause-lost g c clean own =
    c.in-Err.ensures.none clean (ap (λ f. Err f) (own_is_lost _ c.in-Err.fault c.lost_or.ensures own))
