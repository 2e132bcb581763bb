use Rattle.std.proofs.Common.{sym, subst}
use Rattle.filing_image.specs.Program.{Program}
use Rattle.filing_machine.specs.Runs.{IsOnRun}
use Rattle.desk_flights.specs.FlightViews.{FlightView, IsGranted, StopsShort, facts_in}
use Rattle.desk_flights.specs.Machines.{IsStopped}
use Rattle.desk_flights.proofs.HeldLemmas.{made_grants, stopped_short, with_machine}
use Rattle.desk_flights.proofs.ResultLemmas.{on_ok_map, on_err_map}
use Rattle.desk_flights.proofs.flight.Flight.turn.Goals as goal

pub make_steps-requires : goal.make_steps-requires
make_steps-requires c =
    let P : Program → Type 0 = λ p. IsOnRun p (facts_in c.self.inside.case) c.self.inside.machine in
    subst P (sym c.deref.ensures) c.self.invariant.0

pub invariant_of-self : goal.invariant_of-self
invariant_of-self c =
    let P : Program → Type 0 = λ p. IsOnRun p (facts_in c.self.inside.case) c.make_steps.new.machine in
    (subst P c.deref.ensures c.make_steps.ensures.stands, c.self.invariant.1)

pub returns-clause-ok : goal.returns-clause-ok
returns-clause-ok c =
    let at = c.self.inside in
    let x : FlightView = record {
      ticket = at.ticket;
      program = at.program.value;
      message = at.message.items;
      case =
          at.case;
      day = at.day;
      machine = at.machine;
    } in
    let m = c.make_steps.new.machine in
    let S : Program → Type 0 = λ p. IsOnRun p (facts_in at.case) m in
    let P : FlightView → Type 0 = λ y. IsGranted y c.args.count (with_machine x m) in
    on_ok_map c.make_steps.result c.make_steps.ensures.ok (λ made.
    subst P c.self.view_is (made_grants x m c.args.count (subst S c.deref.ensures c.make_steps.ensures.stands)
    made))

pub returns-clause-err : goal.returns-clause-err
returns-clause-err c =
    let at = c.self.inside in
    let x : FlightView = record {
      ticket = at.ticket;
      program = at.program.value;
      message = at.message.items;
      case =
          at.case;
      day = at.day;
      machine = at.machine;
    } in
    let m = c.make_steps.new.machine in
    let S : Program → Type 0 = λ p. IsOnRun p (facts_in at.case) m in
    let T : Program → Type 0 = λ p. IsStopped p at.machine c.args.count m in
    let P : FlightView → Type 0 = λ y. StopsShort y c.args.count (with_machine x m) in
    on_err_map c.make_steps.result c.make_steps.ensures.err (λ stop.
    subst P c.self.view_is (stopped_short x m c.args.count (subst S c.deref.ensures c.make_steps.ensures.stands)
    (subst T c.deref.ensures stop)))
