use Rattle.std.proofs.Common.{false, refl, true}
use Rattle.record_archive.specs.Archive.{Archive}
use Rattle.cli_readings.specs.Exporting.{one_exported}
use Rattle.cli_readings.proofs.exporting.ExportingReader.take.Goals as goal

pub returns-then-entry-clause-taken : goal.returns-then-entry-clause-taken
returns-then-entry-clause-taken g c = λ clean (a : Archive) s told.
    let x = c.args.self.now in
    let listed = c.in_ok-list_record.ensures in
    one_exported g.D.Destination.made x (record x { out = c.list_record.new.out }) a c.args.entry.now true c.if-entry.true
    (listed.0, (refl, listed.1), listed.2) refl refl

pub returns-clause-taken : goal.returns-clause-taken
returns-clause-taken g c = λ clean (a : Archive) s told.
    one_exported g.D.Destination.made c.args.self.now c.export_live.new.self a c.args.entry.now false c.if-entry.false
    (c.in_ok-export_live.ensures.exported clean a s) c.export_live.ensures.seals c.export_live.ensures.volume
