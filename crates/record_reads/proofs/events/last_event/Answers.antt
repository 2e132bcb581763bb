use Rattle.std.proofs.Common.{◌∙◌, ap, refl, Err, take, reverse}
use Rattle.sqlite_tied.specs.Compute.{everything}
use Rattle.record_tables.specs.Events.{Event}
use Rattle.record_reads.specs.Events.{event_of, event_values, ReadsEvent, FitsEvent}
use Rattle.record_reads.proofs.EventReads.{shows_last, one_event, can_event, last_taken, few_taken, all_taken, all_reverse}
use Rattle.record_reads.proofs.LookupLemmas.{popped}
use Rattle.record_reads.proofs.TypedLemmas.{back, readable, handed_on}
use Rattle.record_reads.proofs.events.last_event.Goals as goal

pub read_all-requires : goal.read_all-requires
unfolding everything
read_all-requires g c = refl

pub returns-clause-last : goal.returns-clause-last
returns-clause-last g c clean = λ es s.
    let found = c.in_ok-events.ensures.all clean in
    let all = c.in_ok-events.events.items in
    let read = back event_values ReadsEvent event_of one_event found.0 _ all (shows_last _ _ found.0 es s found.1.0) found.1.1 in
    popped event_of all _ _ c.pop.result c.in_ok-events.events.ok.0 read (few_taken (reverse es)) c.pop.ensures.variant.0 c.pop.ensures.value
    ∙ last_taken es

pub returns-in_err-events-clause-none : goal.returns-in_err-events-clause-none
returns-in_err-events-clause-none g c clean is = λ es s fits.
    let told = handed_on c.from_residual.result c.in_err-events.field-0.0 c.from_residual.ensures.1 is in
    let found = c.in_err-events.ensures.none clean (ap (λ f. Err f) told) in
    found.1.1 (readable event_values _ FitsEvent can_event found.0 _ (shows_last _ _ found.0 es s found.1.0)
    (all_taken FitsEvent 1 (reverse es) (all_reverse FitsEvent es fits)))
