use Rattle.std.proofs.Common.{◌∙◌, ap, refl}
use Rattle.record_history.specs.Events.{Event}
use Rattle.record_history.specs.Lines as lines
use Rattle.record_history.specs.Views.{deed_view}
use Rattle.cli_history.proofs.beginning.line_now.Goals as goal

pub returns : goal.returns
returns c =
    let occasion = c.args.occasion.now in
    let event : Event = record {
      moment = c.in_ok-moment.moment;
      who = occasion.who.now;
      deed = deed_view c.args.deed;
      notes = occasion.notes.now;
      reason = occasion.reason.now;
    } in
    record {
      event = event;
      line_is = c.in_ok-event_line.ensures ∙ ap (λ k. lines.line_of k event) c.from.ensures;
      who = refl;
      deed_is = refl;
      notes = refl;
      reason = refl;
      spelled = record { moment = c.in_ok-moment.ensures; deed = c.requires };
    }
