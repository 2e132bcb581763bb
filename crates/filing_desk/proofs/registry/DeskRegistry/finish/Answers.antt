use Rattle.std.proofs.Common.{◌≡◌, arith, false, true, refl}
use Rattle.std.proofs.lemmas.Grind.{common_steps}
use Rattle.desk_commands.specs.declared.fault.DeskFault.TheVariants.{NoMemory}
use Rattle.filing_desk.proofs.FilingLemmas.{capture_fault}
use Rattle.filing_desk.proofs.FlightLemmas.{finish_done, finish_early, finish_none, finish_poor, finish_refused}
use Rattle.filing_desk.proofs.registry.DeskRegistry.finish.Goals as goal

pub returns-in_default : goal.returns-in_default
returns-in_default g c = finish_none g.A.Records.keeper c.args.self.now c.args.ticket c.in_default.ensures

pub returns-then-not-is_ended : goal.returns-then-not-is_ended
returns-then-not-is_ended g c =
    let off : c.is_ended.result ≡ false = grind (arith, common_steps) in
    finish_early g.A.Records.keeper c.args.self.now c.args.ticket c.in-Some.flight.now
    c.is_ended.result c.in-Some.ensures c.is_ended.ensures.flight off

pub returns-in_err-outcome : goal.returns-in_err-outcome
returns-in_err-outcome g c =
    let on : c.is_ended.result ≡ true = grind (arith, common_steps) in
    let result = c.from_residual.ensures in
    finish_poor g.A.Records.keeper c.args.self.now c.args.ticket c.in-Some.flight.now
    c.is_ended.result _ c.in-Some.ensures c.is_ended.ensures.flight on (capture_fault _ NoMemory result.0 result.1)

pub returns-in_err-lines : goal.returns-in_err-lines
returns-in_err-lines g c =
    let on : c.is_ended.result ≡ true = grind (arith, common_steps) in
    let result = c.from_residual-in_err-lines.ensures in
    let outcome = c.in_ok-outcome.ensures in
    finish_refused g.A.Records.keeper c.captures_hold_flights.ensures.classes
    g.met.A.Records.is_archive c.args.self.now _ c.args.ticket c.in-Some.flight.now c.is_ended.result
    c.in_ok-outcome.outcome c.in_err-lines.field-0.0 _ c.in-Some.ensures c.is_ended.ensures.flight on outcome.alone
    outcome.classes c.in_err-lines.ensures.files c.in_err-lines.ensures.fault
    c.in_err-lines.ensures.safe
    c.file_outcome.ensures.was_clean refl refl refl refl (capture_fault _ _ result.0 result.1)

pub returns : goal.returns
returns g c =
    let on : c.is_ended.result ≡ true = grind (arith, common_steps) in
    let outcome = c.in_ok-outcome.ensures in
    finish_done g.A.Records.keeper c.args.self.now _ c.args.ticket c.in-Some.flight.now
    c.is_ended.result c.in_ok-outcome.outcome c.in_ok-lines.lines c.in-Some.ensures c.is_ended.ensures.flight on
    outcome.alone c.in_ok-lines.ensures.files c.in_ok-lines.ensures.safe c.file_outcome.ensures.was_clean refl c.remove.ensures refl refl
