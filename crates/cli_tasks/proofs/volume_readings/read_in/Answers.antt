use Rattle.std.proofs.lemmas.Result.{IfOk-weaker}
use Rattle.cli_readings.specs.VolumeReads.{ReadsFound}
use Rattle.cli_volumes.specs.Names.{path_of}
use Rattle.cli_tasks.specs.Readings.{GoesWell, ReadsIn}
use Rattle.cli_tasks.specs.Works.{IsDone}
use Rattle.cli_tasks.specs.declared.volume_readings.Reading.{Reading}
use Rattle.cli_tasks.proofs.ReadingLaws.{lent_well}
use Rattle.cli_tasks.proofs.volume_readings.read_in.Goals as goal

pub returns : goal.returns
returns g c =
    let store = g.A.Kept.Store in
    let IsAt = g.A.Archives.is_at c.args.archives.now in
    let folder = c.args.volumes.folder.now in
    let volume = c.args.volume in
    let takes = g.R.VolumeReader.takes in
    let questions = c.args.questions.now in
    let choice = c.args.choice.now in
    let old = c.args.reading in
    IfOk-weaker c.lend.result
    (λ (x : Reading g.row.R.Denot). IsDone (IsAt (path_of folder volume))
    (λ before after. GoesWell old x (ReadsFound store (takes volume) choice questions before after)))
    (λ (x : Reading g.row.R.Denot). GoesWell old x (ReadsIn store IsAt folder takes questions volume choice))
    (λ x d. lent_well (IsAt (path_of folder volume)) old x (ReadsFound store (takes volume) choice questions) d) c.lend.ensures
