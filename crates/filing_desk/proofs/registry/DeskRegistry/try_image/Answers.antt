use Rattle.std.proofs.Common.{refl, ◌∙◌}
use Rattle.desk_commands.specs.Limits.{greatest_image}
use Rattle.desk_commands.specs.Office.{try_image}
use Rattle.filing_desk.proofs.FaultLemmas.{gave_up, outcome_fault, try_done, try_no_image, try_no_message}
use Rattle.filing_desk.proofs.registry.DeskRegistry.try_image.Goals as goal

pub returns-in_err-program : goal.returns-in_err-program
returns-in_err-program g c = λ i m i_is m_is.
    let result = c.from_residual.ensures in
    try_no_image g.A.Records.keeper c.args.self.now i m c.in_err-program.field-0.0 _
    (outcome_fault _ _ result.0 result.1) (c.in_err-program.ensures.refused i i_is)

pub returns-in_err-case : goal.returns-in_err-case
returns-in_err-case g c = λ i m i_is m_is.
    let result = c.from_residual-in_err-case.ensures in
    try_no_message g.A.Records.keeper c.args.self.now i m c.in_ok-program.program
    c.in_err-case.field-0.0 _ (outcome_fault _ _ result.0 result.1) (c.in_ok-program.ensures.good i i_is)
    (c.in_ok-program.ensures.short i i_is) (c.in_err-case.ensures.refused m m_is)

pub returns-in_err-outcome : goal.returns-in_err-outcome
returns-in_err-outcome g c = λ i m i_is m_is.
    let result = c.from_residual-in_err-outcome.ensures in
    gave_up g.A.Records.keeper c.args.self.now (try_image i m) greatest_image i _ _
    (outcome_fault _ _ result.0 result.1) refl (c.in_ok-program.ensures.short i i_is) (λ x n l. l)

pub returns : goal.returns
returns g c = λ i m i_is m_is.
    let ran = c.in_ok-outcome.ensures in
    try_done g.A.Records.keeper c.args.self.now c.plan.result.now c.in_ok-program.program i m _ ran.0
    _ (λ x stands. c.plan.ensures ∙ g.met.A.Records.plan_is c.args.self.now.store x.office.archive stands.store)
    (c.in_ok-program.ensures.good i i_is) (c.in_ok-case.ensures.short m m_is) (c.in_ok-case.ensures.case m m_is)
    ran.1
