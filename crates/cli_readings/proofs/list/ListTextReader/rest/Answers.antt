use Rattle.record_archive.specs.Archive.{Archive}
use Rattle.cli_readings.proofs.list.ListTextReader.rest.Goals as goal

pub returns : goal.returns
returns g c = λ (a : Archive). c.in_ok-write.ensures.same a
