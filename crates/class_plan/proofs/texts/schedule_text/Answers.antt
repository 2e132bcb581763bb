use Rattle.std.proofs.Common.{ap, sym, ◌∙◌}
use Rattle.std.proofs.lemmas.Result.{IfOk-weaker}
use Rattle.class_plan.specs.Texts.{schedule_of_bytes, text_of}
use Rattle.class_plan.proofs.Printed.{text-reads}
use Rattle.class_plan.proofs.texts.schedule_text.Goals as goal

pub returns-in-Permanent-clause-reads_back : goal.returns-in-Permanent-clause-reads_back
returns-in-Permanent-clause-reads_back c =
    IfOk-weaker c.from_slice.result _ _ (λ v e. ap schedule_of_bytes (e ∙ ap text_of (sym c.in-Permanent.is))
    ∙ text-reads c.args.schedule c.requires) c.from_slice.ensures.items

pub returns-in-After-clause-reads_back : goal.returns-in-After-clause-reads_back
returns-in-After-clause-reads_back c =
    IfOk-weaker c.after_text.result _ _ (λ v e. ap schedule_of_bytes (e ∙ ap text_of (sym c.in-After.is))
    ∙ text-reads c.args.schedule c.requires) c.after_text.ensures
