use Rattle.std.proofs.Common.{◌∙◌, ap₂}
use Rattle.class_plan.specs.Plans.{keeps}
use Rattle.cli_tasks.proofs.SettingLaws.{succeeds_if}
use Rattle.cli_tasks.proofs.volume_settings.has_classes_of.Goals as goal

pub returns : goal.returns
returns c =
    c.is_ok.ensures.value ∙ succeeds_if (keeps c.in_ok-revised.revised c.in_ok-copied.copied) c.revise.result c.revise.ensures
    (λ x kept. kept.0) (λ y lost. lost.0)
    ∙ ap₂ keeps c.in_ok-revised.ensures c.in_ok-copied.ensures
