use Rattle.std.proofs.Common.{ap, is_ok}
use Rattle.cli_console.proofs.JoinedLaws.{none_refused, well_so}
use Rattle.cli_tasks.proofs.volume_readings.Reading.read.Goals as goal

pub returns : goal.returns
returns g c = λ none.
    let on =
    none_refused c.args.self.joined.is_refused c.add.new.self.is_refused c.read_volume-done.result c.add.result c.add.ensures.refused
    c.add.ensures.goes_on (ap is_ok c.in_ok-add.was) none in
    (on.0, well_so c.read_volume-done.result c.read_volume-done.ensures on.1)
