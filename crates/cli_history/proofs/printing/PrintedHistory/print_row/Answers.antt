use Rattle.std.proofs.Common.{◌++◌, ◌∷◌, [], List, None, Some, sym, subst}
use Rattle.std.proofs.lemmas.Result.{on_ok_weaker}
use Rattle.record_history.specs.Views.{event_view}
use Rattle.record_reads.specs.Events.{event_of}
use Rattle.record_tables.specs.Events.{Event as Row}
use Rattle.cli_history.specs.Lawful.{Watches}
use Rattle.cli_history.specs.declared.watching.Watch.{Watch}
use Rattle.cli_history.proofs.PrintingLaws.{on_ok_both, one_printed}
use Rattle.cli_history.proofs.printing.PrintedHistory.print_row.Goals as goal

-- the judge alone is another one before the row is printed, of whom the text says nothing
pub returns-in-Ok : goal.returns-in-Ok
returns-in-Ok g c =
    let row = event_of c.args.row.now in
    on_ok_weaker c.print_event.result (λ prints.
    one_printed g.K.Sink.written c.args.self.now c.print_event.new.self c.args.text.now c.print_event.new.text row
    (Some (event_view c.in-Ok.event)) c.in-Ok.ensures.tells
    prints.added prints.there (record { asked = prints.same.asked; volume = prints.same.volume })
    (λ (before : List Row) so_far.
    subst (λ (w : Watch). Watches w (before ++ row ∷ [])) (sym prints.watch) (c.in_ok-look_at.ensures.watches before so_far))
    prints.met) c.print_event.ensures

pub returns-in-Err : goal.returns-in-Err
returns-in-Err g c =
    let row = event_of c.args.row.now in
    on_ok_both c.print_unread.result c.print_unread.ensures.unread c.print_unread.ensures.printed (λ unread prints.
    one_printed g.K.Sink.written c.args.self.now c.print_unread.new.self c.args.text.now c.print_unread.new.text row None
    (c.in-Err.ensures.tells unread)
    prints.added prints.there (record { asked = prints.same.asked; volume = prints.same.volume })
    (λ (before : List Row) so_far.
    subst (λ (w : Watch). Watches w (before ++ row ∷ [])) (sym prints.watch) (c.in_ok-look_at.ensures.watches before so_far))
    prints.met)
