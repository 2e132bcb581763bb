use Rattle.std.proofs.Common.{◌≡◌, ℕ, false, subst}
use Rattle.std.proofs.lemmas.Grind.{common_steps}
use Rattle.std.proofs.Common.{arith}
use Rattle.filing_machine.specs.StateViews.{is_ended}
use Rattle.desk_commands.specs.Standing.{flight_of}
use Rattle.filing_desk.specs.Standing.{IsShownBy}
use Rattle.filing_desk.proofs.FaultyRunLemmas.{held_pinned, told_at_end, told_before}
use Rattle.filing_desk.proofs.deliveries.fault_in.Goals as goal

pub returns-then-not-is_ended : goal.returns-then-not-is_ended
returns-then-not-is_ended g c = λ s stands.
    let t = c.args.ticket in
    let p = c.in-Some.field-0-0.now in
    let m = c.in-Some.machine.now in
    let Shown : ℕ → Type 0 = λ n. IsShownBy (flight_of n s.flights) p m in
    let off : is_ended m.progress ≡ false = grind (arith, common_steps) in
    told_before (flight_of t s.flights) p m (λ f. held_pinned t c.args.desk.now.flights s.flights f stands.flights)
    (subst Shown c.from.ensures (c.in-Some.ensures s stands)) off

pub returns : goal.returns
returns g c = λ s stands.
    let t = c.args.ticket in
    let p = c.in-Some.field-0-0.now in
    let m = c.in-Some.machine.now in
    let Shown : ℕ → Type 0 = λ n. IsShownBy (flight_of n s.flights) p m in
    told_at_end (flight_of t s.flights) p m c.in_ok-outcome.outcome
    (λ f. held_pinned t c.args.desk.now.flights s.flights f stands.flights)
    (subst Shown c.from.ensures (c.in-Some.ensures s stands)) c.in_ok-outcome.ensures.of_run
