use Rattle.std.proofs.Common.{◌∙◌, ap}
use Rattle.record_archive.specs.Archive.{Archive}
use Rattle.cli_readings.specs.declared.volume_twice.KeptOctets.{KeptOctets}
use Rattle.cli_readings.proofs.VolumeTwiceLaws.{kept_row}
use Rattle.cli_readings.proofs.volume_twice.row_of_record.Goals as goal

pub returns-clause-row : goal.returns-clause-row
returns-clause-row g c = λ clean (a : Archive) s.
    kept_row a c.args.listing c.args.beside.now c.args.is_first c.args.sealed c.new-list.result c.add_record.new.list c.write.new.self
    (ap (λ (k : KeptOctets). k.octets.items) c.new-list.ensures.sink ∙ c.new-octets.ensures.items) c.new-list.ensures.text
    c.new-list.ensures.listing (c.in_ok-add_record.ensures.added clean a s) (c.in_ok-write.ensures.same a) c.in_ok-write.ensures.all
