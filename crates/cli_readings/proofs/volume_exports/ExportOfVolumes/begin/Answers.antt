use Rattle.std.proofs.Common.{refl}
use Rattle.cli_readings.specs.Exporting.{nothing_over}
use Rattle.cli_readings.proofs.volume_exports.ExportOfVolumes.begin.Goals as goal

pub returns-then-is_begun : goal.returns-then-is_begun
returns-then-is_begun g c = record {
  ready = nothing_over g.D.Destination.made c.args.self.now.exporting.out;
  begun = c.if-is_begun.true;
}

pub returns : goal.returns
returns g c = record { ready = record { handed = c.in_ok-prepare.ensures; count = refl }; begun = refl }
