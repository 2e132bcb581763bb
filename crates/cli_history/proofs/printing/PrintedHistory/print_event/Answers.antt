use Rattle.std.proofs.Common.{◌∙◌, ◌==◌, Some, ap, refl, sym, subst}
use Rattle.record_history.specs.Views.{event_view}
use Rattle.record_reads.specs.Events.{event_of}
use Rattle.cli_history.specs.Chosen.{is_there_after}
use Rattle.cli_history.specs.Printed.{IsEventText}
use Rattle.cli_history.proofs.PrintingLaws.{on_ok_both, row_passed, row_printed}
use Rattle.cli_history.proofs.printing.PrintedHistory.print_event.Goals as goal

pub returns-then-not-is_asked : goal.returns-then-not-is_asked
returns-then-not-is_asked g c =
    let was = c.args.self.now in
    row_passed g.K.Sink.written was (record was { is_there = c.is_there_after-self.result }) c.args.text.now (event_of c.args.row.now)
    (Some (event_view c.args.event.now)) (sym c.is_asked.ensures ∙ c.if-not-is_asked.true)
    (c.is_there_after-self.ensures ∙ ap (λ ns. is_there_after ns was.is_there (event_view c.args.event.now).deed) c.as_slice.ensures.value)
    (record { asked = refl; volume = refl }) refl refl

pub returns : goal.returns
returns g c =
    let was = c.args.self.now in
    let is = record was { is_there = c.is_there_after-self.result; missing = c.meet.new.self } in
    let text = c.args.text.now in
    let row = event_of c.args.row.now in
    let event = event_view c.args.event.now in
    let is_text = subst (λ t. IsEventText was.volume text.is_json (text.count == 0) (row, Some event) t) (sym c.as_str.ensures.value)
    c.in_ok-said.ensures in
    on_ok_both c.push.result c.push.ensures.added c.push.ensures.rest (λ writes rest.
    row_printed g.K.Sink.written was is text c.push.new.self row (Some event) c.as_str.result.now
    (sym c.is_asked.ensures ∙ c.if-not-is_asked.false) is_text writes rest
    (c.is_there_after-self.ensures ∙ ap (λ ns. is_there_after ns was.is_there event.deed) c.as_slice.ensures.value)
    (record { asked = refl; volume = refl }) refl c.in_ok-meet.ensures)
