use Rattle.std.proofs.Common.{refl, ap, sym, ◌∙◌, Err}
use Rattle.record_archive.specs.Faults.{is_trouble}
use Rattle.sqlite_keyed.proofs.ListLemmas.{all-filter}
use Rattle.record_reads.specs.Events.{FitsEvent, events_from, is_event_from}
use Rattle.record_reads.proofs.EventReads.{all_taken}
use Rattle.record_store.proofs.EventLemmas.{trouble_of, own_is_lost, reads_beside}
use Rattle.record_store.proofs.store.Store.events_from.Goals as goal

pub returns-in-Ok-clause-beside : goal.returns-in-Ok-clause-beside
returns-in-Ok-clause-beside g c =
    reads_beside g.S.Store c.args.self.now c.events_from.new.conn _ c.events_from.ensures.looks (λ clean. c.in-Ok.ensures.open clean) (tt {0})

pub returns-in-Err-clause-beside : goal.returns-in-Err-clause-beside
returns-in-Err-clause-beside g c =
    reads_beside g.S.Store c.args.self.now c.events_from.new.conn _ c.events_from.ensures.looks (λ clean. tt {0})
    (ap is_trouble c.lost_or.ensures ∙ trouble_of c.in-Err.fault)

pub returns-in-Err-clause-lost : goal.returns-in-Err-clause-lost
returns-in-Err-clause-lost g c clean own = λ es stored fits.
    c.in-Err.ensures.none clean (ap (λ f. Err f) (own_is_lost _ c.in-Err.fault c.lost_or.ensures own)) es stored
    (all_taken FitsEvent c.args.most (events_from c.args.from es) (all-filter FitsEvent (is_event_from c.args.from) es fits))
