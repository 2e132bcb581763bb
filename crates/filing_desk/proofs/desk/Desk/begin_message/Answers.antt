use Rattle.std.proofs.Common.{◌≡◌, ◌+◌, ℕ, List, ap, refl, subst, sym, ◌∙◌}
use Rattle.class_plan.specs.Plans.{Listing}
use Rattle.desk_commands.specs.Answers.{begun}
use Rattle.desk_commands.specs.declared.fault.DeskFault.TheVariants.{NoMemory}
use Rattle.filing_image.specs.Program.{Program}
use Rattle.filing_desk.specs.Beginning.{IsNewFlight}
use Rattle.filing_desk.specs.Standing.{AreOpenPaths}
use Rattle.filing_desk.proofs.BeginLemmas.{begin_done, begin_poor, begin_refused, ticket_fault}
use Rattle.filing_desk.proofs.desk.Desk.begin_message.Goals as goal

pub returns-in_err-day : goal.returns-in_err-day
returns-in_err-day g c = λ m is.
    let result = c.from_residual.ensures in
    begin_refused g.A.Records.keeper g.A.Records.plan_of g.met.A.Records.plan_is
    c.captures_hold_flights.ensures.count c.args.self.now c.args.officer.now c.args.moment m c.in_err-day.field-0.0
    _ (c.in_err-day.ensures.refused m is) (ticket_fault _ _ result.0 result.1)

pub returns-in_err-octets : goal.returns-in_err-octets
returns-in_err-octets g c = λ m is.
    let result = c.from_residual-in_err-octets.ensures in
    begin_poor g.A.Records.keeper g.A.Records.plan_of g.met.A.Records.plan_is
    c.captures_hold_flights.ensures.count c.args.self.now c.args.self.now c.args.officer.now c.args.moment m
    c.in_err-octets.field-0.0 _ (c.in_ok-day.ensures.allowed m is) c.in_err-octets.ensures.refused
    (ticket_fault _ _ result.0 result.1) (record { store = refl; officers = refl; flights = refl; last = refl })
    (λ p same there. there)

pub returns-in_err-flight : goal.returns-in_err-flight
returns-in_err-flight g c = λ m is.
    let result = c.from_residual-in_err-flight.ensures in
    let entered = c.enter.ensures in
    begin_poor g.A.Records.keeper g.A.Records.plan_of g.met.A.Records.plan_is
    c.captures_hold_flights.ensures.count c.args.self.now _ c.args.officer.now c.args.moment m NoMemory _
    (c.in_ok-day.ensures.allowed m is) refl (ticket_fault _ _ result.0 result.1) entered.same (λ p same there.
    let P : Listing → Type 0 = λ q. AreOpenPaths c.enter.new.self.open_paths q in let Q : Listing
    → Type 0 = λ q. AreOpenPaths c.args.self.now.open_paths q in
    subst P same (entered.kept (subst Q (sym same) there)))

pub returns-in_err-push : goal.returns-in_err-push
returns-in_err-push g c = λ m is.
    let result = c.from_residual-in_err-push.ensures in
    let entered = c.enter.ensures in
    let same = entered.same in
    begin_poor g.A.Records.keeper g.A.Records.plan_of g.met.A.Records.plan_is
    c.captures_hold_flights.ensures.count c.args.self.now _ c.args.officer.now c.args.moment m NoMemory _
    (c.in_ok-day.ensures.allowed m is) refl (ticket_fault _ _ result.0 result.1) (record {
      store = same.store;
      officers = same.officers;
      flights = c.in_err-push.ensures.err ∙ same.flights;
      last = same.last;
    })
    (λ p same there. let P : Listing → Type 0 = λ q. AreOpenPaths c.enter.new.self.open_paths q in let Q : Listing
    → Type 0 = λ q. AreOpenPaths c.args.self.now.open_paths q in
    subst P same (entered.kept (subst Q (sym same) there)))

pub returns : goal.returns
returns g c = λ m is.
    let old = c.args.self.now in
    let entered = c.enter.ensures in
    let x = c.in_ok-flight.flight in
    let P : List ℕ → Type 0 = λ message.
    IsNewFlight (g.A.Records.plan_of old.store) old c.args.officer.now (old.last + 1) message c.in_ok-day.day x in
    let budget : c.budget-budget.result ≡ x.program.budget = c.budget-budget.ensures ∙ ap (λ (p : Program). p.budget) c.program.ensures in
    begin_done g.A.Records.keeper g.A.Records.plan_of g.met.A.Records.plan_is
    c.captures_hold_flights.ensures.count c.captures_hold_flights.ensures.open_paths c.every_run_ends.ensures.ends
    old c.enter.new.self _ c.args.officer.now c.args.moment m c.in_ok-day.day x _ (c.in_ok-day.ensures.allowed m is)
    c.in_ok-day.ensures.day.1 entered.same entered.kept (λ there.
    subst P (c.in_ok-octets.ensures.octets m is) (c.in_ok-flight.ensures.entered there)) refl refl
    c.in_ok-push.ensures.ok refl refl (ap (begun (old.last + 1)) budget)
