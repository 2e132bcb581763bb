use Rattle.std.proofs.Common.{List, subst, ℕ}
use Rattle.cli_tasks.specs.Histories.{GivesTitlesOver}
use Rattle.cli_tasks.proofs.volume_settings.set_titles.Goals as goal

pub returns : goal.returns
returns g c =
    let store = g.A.Kept.Store in
    let IsAt = g.A.Archives.is_at c.args.archives.now in
    let volumes = c.in_ok-volumes.volumes in
    let over : GivesTitlesOver store IsAt volumes.folder.now volumes.last =
    record { planned = c.in_ok-judge_plans.ensures; sound = c.in_ok-judge_histories.ensures } in (
      volumes.last,
      c.in_ok-volumes.ensures.some,
      subst (λ (f : List ℕ). GivesTitlesOver store IsAt f volumes.last) c.in_ok-volumes.ensures.folder over,
    )
