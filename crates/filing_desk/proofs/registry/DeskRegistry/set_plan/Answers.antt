use Rattle.std.proofs.Common.{refl}
use Rattle.record_archive.specs.Archive as archives
use Rattle.desk_commands.specs.Office.{set_plan}
use Rattle.desk_commands.specs.Parts.{IsPlanOf}
use Rattle.filing_desk.proofs.PlanLemmas.{no_plan, no_text, plan_command}
use Rattle.filing_desk.proofs.StepLemmas.{done_by, done_fault, refused_by_archive}
use Rattle.filing_desk.proofs.registry.DeskRegistry.set_plan.Goals as goal

pub returns-in_err-octets : goal.returns-in_err-octets
returns-in_err-octets g c = λ t is.
    let result = c.from_residual.ensures in
    no_text g.A.Records.keeper c.args.self.now t c.in_err-octets.field-0.0 _
    (done_fault _ _ result.0 result.1) (c.in_err-octets.ensures.offered t is)

pub returns-in_err-plan : goal.returns-in_err-plan
returns-in_err-plan g c = λ t is.
    let offered = c.in_ok-octets.ensures.offered t is in
    let result = c.from_residual-in_err-plan.ensures in
    no_plan g.A.Records.keeper c.args.self.now t c.in_err-plan.field-0.0 _
    (done_fault _ _ result.0 result.1) offered.1 (rw offered.0 at c.in_err-plan.ensures.refused)

pub returns-in_err-revise : goal.returns-in_err-revise
returns-in_err-revise g c = λ t is.
    let offered = c.in_ok-octets.ensures.offered t is in
    let result = c.from_residual-in_err-revise.ensures in
    let plan : IsPlanOf t c.in_ok-plan.plan = record { short = offered.1; is_plan = rw offered.0 at c.in_ok-plan.ensures.plan } in
    refused_by_archive g.A.Records.keeper c.args.self.now _ (set_plan t) (λ a.
    archives.revise a c.in_ok-plan.plan) c.in_err-revise.field-0.0 _ (plan_command t c.in_ok-plan.plan plan)
    (record { officers = refl; flights = refl; last = refl }) refl c.in_err-revise.ensures
    (done_fault _ _ result.0 result.1)

pub returns : goal.returns
returns g c = λ t is.
    let offered = c.in_ok-octets.ensures.offered t is in
    let plan : IsPlanOf t c.in_ok-plan.plan = record { short = offered.1; is_plan = rw offered.0 at c.in_ok-plan.ensures.plan } in
    done_by g.A.Records.keeper c.args.self.now _ (set_plan t) (λ a.
    archives.revise a c.in_ok-plan.plan) (plan_command t c.in_ok-plan.plan plan) (record {
      officers = refl;
      flights = refl;
      last = refl;
    }) (λ a b made there. tt) c.in_ok-revise.ensures
