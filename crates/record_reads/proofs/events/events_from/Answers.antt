use Rattle.std.proofs.Common.{refl}
use Rattle.sqlite_tied.specs.Compute.{everything}
use Rattle.record_reads.specs.Events.{event_of, event_values, ReadsEvent}
use Rattle.record_reads.proofs.EventReads.{shows_page, one_event, can_event}
use Rattle.record_reads.proofs.TypedLemmas.{if_ok, back, readable}
use Rattle.record_reads.proofs.events.events_from.Goals as goal

pub read_all-requires : goal.read_all-requires
unfolding everything
read_all-requires g c = refl

pub returns-clause-all : goal.returns-clause-all
returns-clause-all g c clean =
    if_ok c.read_all.result _ _ (c.read_all.ensures.all clean) (λ all h es s.
    let asked = rw (c.to_sql.ensures, c.to_sql-2.ensures) at h.1.0 in
    back event_values ReadsEvent event_of one_event h.0 _ all.items (shows_page _ _ h.0 c.args.from c.args.most es s asked) h.1.1)

pub returns-clause-none : goal.returns-clause-none
returns-clause-none g c clean is es s fits =
    let found = c.read_all.ensures.none clean is in
    let asked = rw (c.to_sql.ensures, c.to_sql-2.ensures) at found.1.0 in
    found.1.1 (readable event_values _ _ can_event found.0 _ (shows_page _ _ found.0 c.args.from c.args.most es s asked) fits)
