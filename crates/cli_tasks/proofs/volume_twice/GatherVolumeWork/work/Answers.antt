use Rattle.std.proofs.Common.{subst, sym}
use Rattle.std.specs.Prelude.{IfOk}
use Rattle.sqlite.specs.Held.{Held}
use Rattle.cli_readings.specs.declared.volume_twice.TwiceGroups.{TwiceGroups}
use Rattle.cli_tasks.specs.Twins.{Gathers}
use Rattle.cli_tasks.proofs.volume_twice.GatherVolumeWork.work.Goals as goal

pub returns : goal.returns
returns g c =
    let it = c.args.self in
    subst (λ (after : Held g.row.S.Denot). IfOk c.gather-gathered.result
    (λ (x : TwiceGroups). Gathers g.S.Store it.volume it.groups x c.args.archive after)) (sym c.into_connection.ensures)
    c.gather-gathered.ensures
