use Rattle.std.proofs.Common.{subst}
use Rattle.std.specs.Prelude.{All, IfOk}
use Rattle.std.proofs.lemmas.List.Elements.{All-from_recursion}
use Rattle.desk_flights.specs.FlightViews.{FlightView, IsOpenAtBegin, IsOutcome, facts_in}
use Rattle.desk_flights.proofs.HeldLemmas.{outcome_alone}
use Rattle.desk_flights.proofs.ResultLemmas.{if_ok_map}
use Rattle.desk_flights.proofs.ClassLemmas.{classes_open}
use Rattle.desk_flights.proofs.flight.Flight.outcome.Goals as goal

pub returns-clause-alone : goal.returns-clause-alone
returns-clause-alone c =
    let at = c.self.inside in
    let x : FlightView = record {
      ticket = at.ticket;
      program = at.program.value;
      message = at.message.items;
      case =
          at.case;
      day = at.day;
      machine = at.machine;
    } in
    let P : FlightView → Type 0 = λ y. IfOk c.outcome.result (λ o. IsOutcome y o) in
    subst P c.self.view_is (if_ok_map c.outcome.result c.outcome.ensures.of_run (λ o of. outcome_alone x at.machine.steps o c.self.invariant.0 of))

pub returns-clause-in_order : goal.returns-clause-in_order
returns-clause-in_order c =
    let at = c.self.inside in
    if_ok_map c.outcome.result c.outcome.ensures.of_run
    (λ o of. (classes_open at.program.value (facts_in at.case) at.machine.steps o
    (of at.program.value (facts_in at.case) c.self.invariant.0)).in_order)

pub returns-clause-classes : goal.returns-clause-classes
returns-clause-classes c =
    let at = c.self.inside in
    let x : FlightView = record {
      ticket = at.ticket;
      program = at.program.value;
      message = at.message.items;
      case =
          at.case;
      day = at.day;
      machine = at.machine;
    } in
    let P : FlightView → Type 0 = λ y. IfOk c.outcome.result (λ o. All (IsOpenAtBegin y) o.classes) in
    subst P c.self.view_is
    (if_ok_map c.outcome.result c.outcome.ensures.of_run
    (λ o of. All-from_recursion (IsOpenAtBegin x) o.classes (classes_open at.program.value (facts_in at.case) at.machine.steps
    o (of at.program.value (facts_in at.case) c.self.invariant.0)).each))
