use Rattle.std.proofs.Common.{◌∙◌, All, ap, subst, sym}
use Rattle.std.proofs.lemmas.Result.{on_ok_weaker}
use Rattle.cli_tasks.specs.Endings.{JudgesWhereAny}
use Rattle.cli_tasks.specs.Releases.{EndsWhereAny, is_any_listed}
use Rattle.cli_tasks.proofs.volume_changes.release_all.Goals as goal

pub returns : goal.returns
returns g c =
    let same = c.as_slice-listed.ensures.value in
    let Ends = EndsWhereAny g.A.Kept.Store (g.A.Archives.is_at c.args.archives.now) c.args.volumes.folder.now c.args.told.now c.args.name.now in
    let Judges = JudgesWhereAny g.A.Kept.Store (g.A.Archives.is_at c.args.archives.now) c.args.volumes.folder.now c.args.told.now in
    on_ok_weaker c.release_each.result (λ ended. record {
      listed = c.in_ok-listed.listed.items;
      shown = c.in_ok-listed.ensures;
      judged = subst (λ ls. All Judges ls) same c.in_ok-judge_endings.ensures;
      some = ap is_any_listed (sym same) ∙ sym c.is_any.ensures ∙ c.in_ok-judge_release.ensures;
      ended = subst (λ ls. All Ends ls) same ended;
    }) c.release_each.ensures
