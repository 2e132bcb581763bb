use Rattle.std.proofs.Common.{◌≡◌, ◌<◌, ◌≤◌, ◌∷◌, [], arith, get_or, length, rules, subst}
use Rattle.record_reads.specs.Events.{event_of}
use Rattle.record_reads.specs.declared.events.EventRow.{EventRow}
use Rattle.cli_history.specs.Printed.{PrintsRows}
use Rattle.cli_history.proofs.PrintingLaws.{page_all, page_more, page_none}
use Rattle.cli_history.proofs.printing.PrintedHistory.print_page.Goals as goal

pub loop-row-init : goal.loop-row-init
loop-row-init g c = page_none g.K.Sink.written c.args.self.now c.args.text.now c.args.page.now

pub loop-row-preserved : goal.loop-row-preserved
loop-row-preserved g c =
    let page = c.args.page.now in
    let i = c.loop-row.row-index in
    let row = c.row-item.result in
    let same : row ≡ get_or page i row = search (rules, arith) in
    let low : i < length page = omega arith in
    page_more g.K.Sink.written c.args.self.now c.loop-row.self c.print_row.new.self c.args.text.now c.loop-row.text c.print_row.new.text page i row
    low c.loop-row.invariant
    (subst (λ (r : EventRow). PrintsRows g.K.Sink.written c.loop-row.self c.loop-row.text (event_of r ∷ []) c.print_row.new.self
    c.print_row.new.text) same c.in_ok-print_row.ensures)

pub returns : goal.returns
returns g c =
    let page = c.args.page.now in
    let all : length page ≤ c.loop-row.row-index = omega arith in
    page_all g.K.Sink.written c.args.self.now c.loop-row.self c.args.text.now c.loop-row.text page c.loop-row.row-index all c.loop-row.invariant
