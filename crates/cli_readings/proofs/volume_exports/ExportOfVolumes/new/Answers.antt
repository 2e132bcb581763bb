use Rattle.std.proofs.Common.{false}
use Rattle.cli_readings.proofs.VolumeExportLaws.{nothing_exported}
use Rattle.cli_readings.proofs.volume_exports.ExportOfVolumes.new.Goals as goal

pub returns-clause-nothing : goal.returns-clause-nothing
returns-clause-nothing g c =
    nothing_exported g.D.Destination.made c.args.destination (record { exporting = c.new-exporting.result; is_begun = false })
    c.new-exporting.ensures.destination c.new-exporting.ensures.count
