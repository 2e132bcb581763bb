use Rattle.std.proofs.Common.{◌≡◌, arith, false, inr, refl, ap, ◌∙◌}
use Rattle.std.proofs.lemmas.Grind.{common_steps}
use Rattle.class_plan.specs.Calendar.{number_of_day}
use Rattle.filing_desk.proofs.ArchiveLemmas.{fault_told}
use Rattle.filing_desk.proofs.FilingLemmas.{fault_is, file_done, file_refused, files_fault, no_classes, safe_done, safe_refused, safe_same}
use Rattle.filing_desk.proofs.archive.file_outcome.Goals as goal

pub returns-then-not-are_classes-clause-files : goal.returns-then-not-are_classes-clause-files
returns-then-not-are_classes-clause-files g c =
    let off : c.are_classes.result ≡ false = grind (arith, common_steps) in
    no_classes g.A.Records.keeper c.args.store.now c.plan.result.now c.args.flight.now.message
    (number_of_day c.args.flight.now.day) c.args.classes.now c.are_classes.result _ (λ a stands. c.plan.ensures
    ∙ g.met.A.Records.plan_is c.args.store.now a stands) off c.are_classes.ensures

pub returns-in_err-lines-clause-files : goal.returns-in_err-lines-clause-files
returns-in_err-lines-clause-files g c =
    let result = c.from_residual.ensures in
    files_fault g.A.Records.keeper _ _ _ _ _ _ _ result.0 result.1
    (file_refused g.A.Records.keeper c.args.store.now _ _ _ _ _ _ c.in_err-lines.field-0.0
    c.message.ensures (ap number_of_day c.day.ensures.value) c.in_err-lines.ensures)

pub returns-clause-files : goal.returns-clause-files
returns-clause-files g c =
    file_done g.A.Records.keeper c.args.store.now c.capture.new.self c.args.flight.now.message
    c.message.result.now (number_of_day c.args.flight.now.day) (number_of_day c.day.result) c.args.classes.now
    c.in_ok-lines.lines c.message.ensures (ap number_of_day c.day.ensures.value) c.in_ok-lines.ensures

pub returns-then-not-are_classes-clause-safe : goal.returns-then-not-are_classes-clause-safe
returns-then-not-are_classes-clause-safe g c =
    safe_same g.A.Records.keeper c.args.store.now _ _ _ _ refl

pub returns-in_err-lines-clause-safe : goal.returns-in_err-lines-clause-safe
returns-in_err-lines-clause-safe g c =
    safe_refused g.A.Records.keeper c.args.store.now c.capture.new.self _ _ _ _ _ c.in_err-lines.field-0.0 _
    c.from_residual.ensures.0 c.message.ensures (ap number_of_day c.day.ensures.value) c.in_err-lines.ensures

pub returns-clause-safe : goal.returns-clause-safe
returns-clause-safe g c =
    safe_done g.A.Records.keeper c.args.store.now c.capture.new.self c.args.flight.now.message
    c.message.result.now (number_of_day c.args.flight.now.day) (number_of_day c.day.result) c.args.classes.now
    c.in_ok-lines.lines c.message.ensures (ap number_of_day c.day.ensures.value) c.in_ok-lines.ensures

pub returns-then-not-are_classes-clause-fault : goal.returns-then-not-are_classes-clause-fault
returns-then-not-are_classes-clause-fault g c = inr refl

pub returns-in_err-lines-clause-fault : goal.returns-in_err-lines-clause-fault
returns-in_err-lines-clause-fault g c =
    let result = c.from_residual.ensures in
    fault_is _ _ result.0 result.1 (fault_told c.in_err-lines.field-0.0)
