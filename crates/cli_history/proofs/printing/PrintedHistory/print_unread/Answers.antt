use Rattle.std.proofs.Common.{◌∙◌, ◌==◌, None, ap₂, refl, sym, true}
use Rattle.record_reads.specs.Events.{event_of}
use Rattle.cli_texts.specs.HistoryLines.{history_text, line_in}
use Rattle.cli_history.specs.Chosen.{asks_for_all}
use Rattle.cli_history.proofs.PrintingLaws.{on_ok_both, row_passed, row_printed, unread_text}
use Rattle.cli_history.proofs.printing.PrintedHistory.print_unread.Goals as goal

pub returns-then-not-prints_unread-clause-printed : goal.returns-then-not-prints_unread-clause-printed
returns-then-not-prints_unread-clause-printed g c =
    let was = c.args.self.now in
    row_passed g.K.Sink.written was (record was { is_any_unread = true }) c.args.text.now (event_of c.args.row.now) None
    (sym c.prints_unread.ensures ∙ c.if-not-prints_unread.true) refl (record { asked = refl; volume = refl }) refl refl

pub returns-clause-printed : goal.returns-clause-printed
returns-clause-printed g c =
    let was = c.args.self.now in
    let text = c.args.text.now in
    let row = event_of c.args.row.now in
    let asked = sym c.prints_unread.ensures ∙ c.if-not-prints_unread.false in
    let is_text = unread_text was.volume (asks_for_all was.asked.now) text.is_json (text.count == 0) row c.as_str.result.now asked
    (c.as_str.ensures.exact ∙ c.in_ok-line.ensures
    ∙ ap₂ (λ places line. history_text (line_in was.volume places line)) c.none-places.ensures c.as_slice.ensures.value) in
    on_ok_both c.push.result c.push.ensures.added c.push.ensures.rest (λ writes rest.
    row_printed g.K.Sink.written was (record was { is_any_unread = true }) text c.push.new.self row None c.as_str.result.now asked is_text
    writes rest refl (record { asked = refl; volume = refl }) refl refl)
