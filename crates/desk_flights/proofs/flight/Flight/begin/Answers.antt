use Rattle.std.proofs.Common.{◌∙◌, ap, subst}
use Rattle.filing_image.specs.Program.{Program}
use Rattle.mail_case.specs.Message.{case_of, is_among}
use Rattle.filing_machine.specs.Runs.{IsOnRun}
use Rattle.desk_flights.specs.FlightViews.{FlightView, facts_in}
use Rattle.desk_flights.proofs.BegunLemmas.{holds_begun}
use Rattle.desk_flights.proofs.flight.Flight.begin.Goals as goal

pub invariant_of-result : goal.invariant_of-result
invariant_of-result c =
    let facts = facts_in c.in_ok-case.case in
    let P : Program → Type 0 = λ p. IsOnRun p facts c.in_ok-machine.machine in
    (subst P c.deref.ensures (c.in_ok-machine.ensures.stands facts), c.requires.day)

pub returns : goal.returns
returns c =
    let x : FlightView = record {
      ticket = c.args.ticket;
      program = c.args.program.value;
      message =
          c.args.message.items;
      case = c.in_ok-case.case;
      day = c.args.day;
      machine = c.in_ok-machine.machine;
    } in
    holds_begun x c.args.paths (c.in_ok-case.ensures
    ∙ ap (λ m. case_of m (is_among c.args.paths)) c.as_slice.ensures.value) c.in_ok-machine.ensures.fresh
