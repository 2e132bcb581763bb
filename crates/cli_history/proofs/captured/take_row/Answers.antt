use Rattle.std.proofs.Common.{◌∙◌, ap, option_map, sym}
use Rattle.record_history.specs.Views.{deed_view}
use Rattle.record_reads.specs.Events.{event_of}
use Rattle.cli_history.proofs.CaptureLemmas.{captures_none, captures_some}
use Rattle.cli_history.proofs.captured.take_row.Goals as goal

pub returns-in_ok-take-in-Some : goal.returns-in_ok-take-in-Some
returns-in_ok-take-in-Some c =
    let told = c.in_ok-told.ensures in
    captures_some c.args.officer.now (event_of c.args.row.now) c.args.known.now c.take.new.self (deed_view c.in-Some.deed) told.0 told.1
    (sym (ap (option_map deed_view) c.in-Some.is) ∙ told.2) c.in_ok-take-in-Some.ensures

pub returns-in-None : goal.returns-in-None
returns-in-None c =
    let told = c.in_ok-told.ensures in
    captures_none c.args.officer.now (event_of c.args.row.now) c.args.known.now told.0 told.1
    (sym (ap (option_map deed_view) c.in-None.is) ∙ told.2)
