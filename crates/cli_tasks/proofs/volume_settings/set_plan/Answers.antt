use Rattle.std.proofs.Common.{List, subst, ℕ}
use Rattle.std.proofs.lemmas.Result.{on_ok_weaker}
use Rattle.cli_tasks.specs.Settings.{ReplacesPlanOver}
use Rattle.cli_tasks.specs.Works.{OverVolumes}
use Rattle.cli_tasks.proofs.SettingLaws.{handed_on}
use Rattle.cli_tasks.proofs.volume_settings.set_plan.Goals as goal

pub returns : goal.returns
returns g c =
    let store = g.A.Kept.Store in
    let IsAt = g.A.Archives.is_at c.args.archives.now in
    let told = c.args.told.now in
    let volumes = c.in_ok-volumes.volumes in
    handed_on (OverVolumes (ReplacesPlanOver store IsAt c.args.folder.now told)) c.replace_in_each-replaced.result c.not_cut_off.result
    c.not_cut_off.ensures
    (on_ok_weaker c.replace_in_each-replaced.result (λ each.
    let over : ReplacesPlanOver store IsAt volumes.folder.now told volumes.last =
    record { plan = c.in_ok-plan.plan; judged = c.in_ok-judge_plan_in_each.ensures; each = each } in (
      volumes.last,
      c.in_ok-volumes.ensures.some,
      subst (λ (f : List ℕ). ReplacesPlanOver store IsAt f told volumes.last) c.in_ok-volumes.ensures.folder over,
    )) c.replace_in_each-replaced.ensures)
