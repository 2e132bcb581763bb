use Rattle.std.proofs.Common.{◌≤◌, All, arith, length, subst}
use Rattle.std.proofs.lemmas.List.{take_all}
use Rattle.std.proofs.lemmas.List.Elements.{All-more, All-nil}
use Rattle.cli_tasks.specs.Endings.{JudgesWhereAny}
use Rattle.cli_tasks.proofs.volume_endings.judge_endings.Goals as goal

pub loop-of_volume-init : goal.loop-of_volume-init
loop-of_volume-init g c =
    All-nil (JudgesWhereAny g.A.Kept.Store (g.A.Archives.is_at c.args.archives.now) c.args.volumes.folder.now c.args.told.now)

pub loop-of_volume-preserved : goal.loop-of_volume-preserved
loop-of_volume-preserved g c =
    let Judges = JudgesWhereAny g.A.Kept.Store (g.A.Archives.is_at c.args.archives.now) c.args.volumes.folder.now c.args.told.now in
    All-more Judges c.args.listed.now c.loop-of_volume.of_volume-index c.of_volume-item.result c.loop-of_volume-test.true
    c.loop-of_volume.invariant (subst Judges c.of_volume-item.is c.in_ok-judge_ending_where_any.ensures)

pub returns : goal.returns
returns g c =
    let Judges = JudgesWhereAny g.A.Kept.Store (g.A.Archives.is_at c.args.archives.now) c.args.volumes.folder.now c.args.told.now in
    let all : length c.args.listed.now ≤ c.loop-of_volume.of_volume-index = omega arith in
    subst (λ ls. All Judges ls) (take_all c.loop-of_volume.of_volume-index c.args.listed.now all) c.loop-of_volume.invariant
