use Rattle.record_tables.proofs.Standing.{archive_is}
use Rattle.record_tables.proofs.alone.first_tables_are_an_archive.Goals as goal

pub returns : goal.returns
returns c f apart = archive_is f apart
