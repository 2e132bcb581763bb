use Rattle.std.proofs.Common.{◌≤◌, All, arith, length, subst}
use Rattle.std.proofs.lemmas.List.{take_all}
use Rattle.std.proofs.lemmas.List.Elements.{All-more, All-nil}
use Rattle.cli_tasks.specs.Releases.{EndsWhereAny}
use Rattle.cli_tasks.proofs.volume_changes.release_each.Goals as goal

pub loop-of_volume-init : goal.loop-of_volume-init
loop-of_volume-init g c =
    All-nil (EndsWhereAny g.A.Kept.Store (g.A.Archives.is_at c.args.archives.now) c.args.volumes.folder.now c.args.told.now c.args.name.now)

pub loop-of_volume-preserved : goal.loop-of_volume-preserved
loop-of_volume-preserved g c =
    let Ends = EndsWhereAny g.A.Kept.Store (g.A.Archives.is_at c.args.archives.now) c.args.volumes.folder.now c.args.told.now c.args.name.now in
    All-more Ends c.args.listed.now c.loop-of_volume.of_volume-index c.of_volume-item.result c.loop-of_volume-test.true
    c.loop-of_volume.invariant (subst Ends c.of_volume-item.is c.in_ok-release_any_in.ensures)

pub returns : goal.returns
returns g c =
    let Ends = EndsWhereAny g.A.Kept.Store (g.A.Archives.is_at c.args.archives.now) c.args.volumes.folder.now c.args.told.now c.args.name.now in
    let all : length c.args.listed.now ≤ c.loop-of_volume.of_volume-index = omega arith in
    subst (λ ls. All Ends ls) (take_all c.loop-of_volume.of_volume-index c.args.listed.now all) c.loop-of_volume.invariant
