use Rattle.std.proofs.Common.{◌≡◌, ◌∙◌, ap, false, sym, true}
use Rattle.class_plan.specs.Plans.{Listing, keeps}
use Rattle.record_ledger.specs.Ledgers.{store_of}
use Rattle.cli_changes.proofs.SeriesLaws.{on_err}
use Rattle.cli_tasks.proofs.SettingLaws.{fits, kept_as_it_is, lacks}
use Rattle.cli_tasks.proofs.volume_settings.judge_plan.Goals as goal

pub returns-in_err-has_classes-clause-failed : goal.returns-in_err-has_classes-clause-failed
returns-in_err-has_classes-clause-failed g c = on_err c.from_residual.result _ (kept_as_it_is g.S.Store c.args.ledger.now)

pub returns-in_err-copied-clause-failed : goal.returns-in_err-copied-clause-failed
returns-in_err-copied-clause-failed g c = on_err c.from_residual-in_err-copied.result _ (kept_as_it_is g.S.Store c.args.ledger.now)

pub returns-then-has_classes-clause-done : goal.returns-then-has_classes-clause-done
returns-then-has_classes-clause-done g c =
    let plan = c.args.plan.now in
    let has : keeps (store_of c.args.ledger.now.kept).plan plan ≡ true =
    sym (c.in_ok-has_classes.ensures ∙ ap (λ (p : Listing). keeps p plan) c.plan_kept.ensures) ∙ c.if-has_classes.true in
    fits g.S.Store c.args.ledger.now plan has

pub returns-clause-done : goal.returns-clause-done
returns-clause-done g c =
    let plan = c.args.plan.now in
    let none : keeps (store_of c.args.ledger.now.kept).plan plan ≡ false =
    sym (c.in_ok-has_classes.ensures ∙ ap (λ (p : Listing). keeps p plan) c.plan_kept.ensures) ∙ c.if-has_classes.false in
    lacks g.S.Store c.args.ledger.now c.replace_plan.new.archive plan c.in_ok-copied.copied c.replace_plan.result c.in_ok-copied.ensures none
    c.replace_plan.ensures.done
