use Rattle.std.proofs.Common.{subst, sym}
use Rattle.std.proofs.lemmas.Result.{IfOk-weaker}
use Rattle.sqlite.specs.Held.{Held}
use Rattle.cli_readings.specs.VolumeReads.{ReadsFound}
use Rattle.cli_tasks.specs.Readings.{GoesWell}
use Rattle.cli_tasks.specs.declared.volume_readings.Reading.{Reading}
use Rattle.cli_tasks.proofs.volume_readings.ReadVolumeWork.work.Goals as goal

pub returns : goal.returns
returns g c =
    let it = c.args.self in
    let reads = λ (after : Held g.row.S.Denot) (x : Reading g.row.R.Denot). GoesWell it.reading x
    (ReadsFound g.S.Store (g.R.VolumeReader.takes it.volume) it.choice.now it.questions.now c.args.archive after) in
    IfOk-weaker c.read-read.result (reads c.read-read.new.archive.conn) (reads c.into_connection.result)
    (λ x told. subst (λ (after : Held g.row.S.Denot). reads after x) (sym c.into_connection.ensures) told) c.read-read.ensures
