use Rattle.std.proofs.Common.{[], ◌∷◌}
use Rattle.record_archive.specs.Archive.{Archive}
use Rattle.cli_readings.specs.Lists.{more_listed, one_listed}
use Rattle.cli_readings.proofs.list.ListText.add.Goals as goal

pub returns : goal.returns
returns g c = λ (a : Archive) are.
    let written = g.K.Sink.written in
    more_listed written a c.args.self.now c.push_row.new.self c.write_long.new.self (c.args.entry.now ∷ []) []
    (one_listed written a c.args.self.now c.push_row.new.self c.args.entry.now (c.in_ok-push_row.ensures a are))
    (c.in_ok-write_long.ensures a)
