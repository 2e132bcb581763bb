use Rattle.std.proofs.Common.{sym}
use Rattle.record_noted.proofs.OpeningLemmas.{opens_history, refused_end, refused_read}
use Rattle.record_noted.proofs.store.NotedStore.open_events.Goals as goal

pub returns-in-Err-clause-err : goal.returns-in-Err-clause-err
returns-in-Err-clause-err g c =
    refused_read g.S.Store c.args.store c.last_event.new.self c.refusal_of.result c.in-Err.fault c.last_event.result c.in-Err.is
    c.last_event.ensures.beside c.last_event.ensures.lost c.refusal_of.ensures.none

pub returns-in-Some-clause-ok : goal.returns-in-Some-clause-ok
returns-in-Some-clause-ok g c =
    opens_history g.S.Store c.args.store _ c.in-Ok.last c.last_event.result c.in-Ok.is c.last_event.ensures.beside c.last_event.ensures.last
    (sym c.in-Some.ensures)

pub returns-in-None-clause-err : goal.returns-in-None-clause-err
returns-in-None-clause-err g c =
    refused_end g.S.Store c.args.store c.last_event.new.self c.in-Ok.last c.last_event.result c.in-Ok.is c.last_event.ensures.beside
    c.last_event.ensures.last (sym c.in-None.ensures)
