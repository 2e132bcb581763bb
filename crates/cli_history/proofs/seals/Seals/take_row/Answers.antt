use Rattle.std.proofs.Common.{◌∙◌, ap, arith, option_map, sym}
use Rattle.record_history.specs.Views.{deed_view}
use Rattle.record_reads.specs.Events.{event_of}
use Rattle.cli_history.specs.Tellings.{TakesRow}
use Rattle.cli_history.proofs.OneSealLemmas.{seal_taken, seal_untold}
use Rattle.cli_history.proofs.TellingLemmas.{takes_none, takes_some}
use Rattle.cli_history.proofs.seals.Seals.take_row.Goals as goal

pub returns-in_ok-take-in-Some-clause-takes : goal.returns-in_ok-take-in-Some-clause-takes
returns-in_ok-take-in-Some-clause-takes c =
    let told = c.in_ok-told.ensures in
    takes_some (event_of c.args.row.now) c.args.self.now c.take.new.self (deed_view c.in-Some.deed) told.0 told.1
    (sym (ap (option_map deed_view) c.in-Some.is) ∙ told.2) c.in_ok-take-in-Some.ensures.seal c.in_ok-take-in-Some.ensures.titles

pub returns-in_ok-take-in-Some-clause-seal : goal.returns-in_ok-take-in-Some-clause-seal
returns-in_ok-take-in-Some-clause-seal c = λ message.
    let told = c.in_ok-told.ensures in
    let takes : TakesRow (event_of c.args.row.now) c.args.self.now c.take.new.self =
    takes_some (event_of c.args.row.now) c.args.self.now c.take.new.self (deed_view c.in-Some.deed) told.0 told.1
    (sym (ap (option_map deed_view) c.in-Some.is) ∙ told.2) c.in_ok-take-in-Some.ensures.seal c.in_ok-take-in-Some.ensures.titles in
    seal_taken c.lines_have_one_reading.ensures message (event_of c.args.row.now) c.args.self.now c.take.new.self (omega arith) takes

pub returns-in-None-clause-takes : goal.returns-in-None-clause-takes
returns-in-None-clause-takes c =
    let told = c.in_ok-told.ensures in
    takes_none (event_of c.args.row.now) c.args.self.now told.0 told.1 (sym (ap (option_map deed_view) c.in-None.is) ∙ told.2)

pub returns-in-None-clause-seal : goal.returns-in-None-clause-seal
returns-in-None-clause-seal c = λ message.
    let told = c.in_ok-told.ensures in
    seal_untold message (event_of c.args.row.now) c.args.self.now told.0 told.1 (sym (ap (option_map deed_view) c.in-None.is) ∙ told.2)
