use Rattle.cli_readings.proofs.VolumeListLaws.{list_ended}
use Rattle.cli_readings.proofs.volume_lists.VolumeList.end.Goals as goal

pub returns : goal.returns
returns g c =
    list_ended g.K.Sink.written c.args.self c.begin.new.self c.end.new.self c.in_ok-begin.ensures c.in_ok-end.ensures.text c.in_ok-end.ensures.all
