use Rattle.std.proofs.Common.{subst, sym}
use Rattle.std.specs.Prelude.{IfOk}
use Rattle.sqlite.specs.Held.{Held}
use Rattle.cli_readings.specs.declared.volume_twice.TwiceList.{TwiceList}
use Rattle.cli_tasks.specs.Twins.{MakesRows}
use Rattle.cli_tasks.proofs.volume_twice.AddVolumeWork.work.Goals as goal

pub returns : goal.returns
returns g c =
    let it = c.args.self in
    subst (λ (after : Held g.row.S.Denot). IfOk c.add_volume-added.result
    (λ (x : TwiceList). MakesRows g.S.Store it.volume it.list x c.args.archive after)) (sym c.into_connection.ensures)
    c.add_volume-added.ensures.added
