use Rattle.std.proofs.Common.{◌≤◌, ◌∙◌, ℕ, List, ap, length, refl, subst}
use Rattle.sieve_syntax.specs.View.{tree_of}
use Rattle.desk_commands.specs.Limits.{greatest_script}
use Rattle.desk_commands.specs.Office.{file}
use Rattle.desk_commands.specs.Parts.{IsGood, RefusesScript}
use Rattle.desk_officers.specs.Filed.{IsImageNow}
use Rattle.desk_officers.specs.Register.{Register}
use Rattle.filing_desk.specs.Judging.{IsFaultOf}
use Rattle.filing_desk.proofs.FaultLemmas.{file_done, file_no_message, file_no_script, gave_up, officers_same, outcome_fault}
use Rattle.filing_desk.proofs.OutcomeLemmas.{outcome_same}
use Rattle.filing_desk.proofs.registry.DeskRegistry.file.Goals as goal

pub returns-in_err-text : goal.returns-in_err-text
returns-in_err-text g c = λ s m s_is m_is.
    let result = c.from_residual.ensures in
    file_no_script g.A.Records.keeper c.args.self.now s m c.in_err-text.field-0.0 _
    (outcome_fault _ _ result.0 result.1) (c.in_err-text.ensures.refused s s_is)

pub returns-in_err-case : goal.returns-in_err-case
returns-in_err-case g c = λ s m s_is m_is.
    let result = c.from_residual-in_err-case.ensures in
    let P : List ℕ → Type 0 = λ t. IsImageNow c.args.self.now.officers.globals t c.in-Some.image.now in
    let kept = subst P (c.in_ok-text.ensures.text s s_is) c.in-Some.ensures in
    file_no_message g.A.Records.keeper c.args.self.now s m kept.tree c.in_err-case.field-0.0 _
    (outcome_fault _ _ result.0 result.1) kept.good kept.short (c.in_err-case.ensures.refused m m_is)

pub returns-in_err-outcome : goal.returns-in_err-outcome
returns-in_err-outcome g c = λ s m s_is m_is.
    let result = c.from_residual-in_err-outcome.ensures in
    let P : List ℕ → Type 0 = λ t. length t ≤ greatest_script in
    gave_up g.A.Records.keeper c.args.self.now (file s m) greatest_script s _ _
    (outcome_fault _ _ result.0 result.1) refl
    (subst P (c.in_ok-text.ensures.text s s_is) c.in_ok-text.ensures.short) (λ x n l. l)

pub returns-in-Some : goal.returns-in-Some
returns-in-Some g c = λ s m s_is m_is.
    file_done g.A.Records.keeper c.args.self.now c.plan.result.now s m _ _ (λ x stands.
    c.plan.ensures ∙ g.met.A.Records.plan_is c.args.self.now.store x.office.archive stands.store)
    (c.in_ok-case.ensures.short m m_is) (c.in_ok-case.ensures.case m m_is)
    (outcome_same refl (c.in_ok-text.ensures.text s s_is)
    (c.in_ok-outcome.ensures c.args.self.now.officers.globals c.in_ok-text.text.now c.in-Some.ensures))

pub returns-in_err-checked : goal.returns-in_err-checked
returns-in_err-checked g c = λ s m s_is m_is.
    let result = c.from_residual-in_err-checked.ensures in
    let fault = c.in_err-checked.field-0.0 in
    let P : List ℕ → Type 0 = λ t. IsFaultOf (RefusesScript t) greatest_script t fault in
    officers_same g.A.Records.keeper c.args.self.now c.drop_filed.new.self (file s m) _ c.drop_filed.ensures
    (file_no_script g.A.Records.keeper c.args.self.now s m fault _
    (outcome_fault _ _ result.0 result.1) (subst P (c.in_ok-text.ensures.text s s_is) c.in_err-checked.ensures.refused))

pub returns-in_err-case-2 : goal.returns-in_err-case-2
returns-in_err-case-2 g c = λ s m s_is m_is.
    let result = c.from_residual-in_err-case-2.ensures in
    let is = c.in_ok-text.ensures.text s s_is in
    let tree = tree_of c.in_ok-checked.checked.script in
    let P : List ℕ → Type 0 = λ t. length t ≤ greatest_script in
    let Q : List ℕ → Type 0 = λ t. IsGood t tree in
    officers_same g.A.Records.keeper c.args.self.now c.drop_filed.new.self (file s m) _ c.drop_filed.ensures
    (file_no_message g.A.Records.keeper c.args.self.now s m tree c.in_err-case-2.field-0.0 _
    (outcome_fault _ _ result.0 result.1) (subst Q is c.in_ok-checked.ensures.good)
    (subst P is c.in_ok-text.ensures.short) (c.in_err-case-2.ensures.refused m m_is))

pub returns-in_err-outcome-2 : goal.returns-in_err-outcome-2
returns-in_err-outcome-2 g c = λ s m s_is m_is.
    let result = c.from_residual-in_err-outcome-2.ensures in
    let P : List ℕ → Type 0 = λ t. length t ≤ greatest_script in
    officers_same g.A.Records.keeper c.args.self.now c.outcome_of.new.officers (file s m) _
    (c.outcome_of.ensures.same ∙ c.drop_filed.ensures)
    (gave_up g.A.Records.keeper c.args.self.now (file s m) greatest_script s c.in_err-outcome-2.field-0.0 _
    (outcome_fault _ _ result.0 result.1) c.in_err-outcome-2.ensures.refused
    (subst P (c.in_ok-text.ensures.text s s_is) c.in_ok-text.ensures.short) (λ x n l. l))

pub returns : goal.returns
returns g c = λ s m s_is m_is.
    let globals = ap (λ (o : Register). o.globals) c.drop_filed.ensures in
    officers_same g.A.Records.keeper c.args.self.now c.outcome_of.new.officers (file s m) _
    (c.outcome_of.ensures.same ∙ c.drop_filed.ensures)
    (file_done g.A.Records.keeper c.args.self.now c.plan-2.result.now s m _ _ (λ x stands.
    c.plan-2.ensures ∙ g.met.A.Records.plan_is c.args.self.now.store x.office.archive stands.store)
    (c.in_ok-case-2.ensures.short m m_is) (c.in_ok-case-2.ensures.case m m_is)
    (outcome_same globals (c.in_ok-text.ensures.text s s_is) c.in_ok-outcome-2.ensures.outcome))
