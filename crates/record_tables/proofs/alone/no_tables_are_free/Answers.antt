use Rattle.record_tables.proofs.Standing.{nothing_is_free}
use Rattle.record_tables.proofs.alone.no_tables_are_free.Goals as goal

pub returns : goal.returns
returns c = nothing_is_free
