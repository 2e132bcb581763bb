use Rattle.record_tables.proofs.Standing.{first_is, dated_is}
use Rattle.record_tables.proofs.alone.created_tables_are_version_1.Goals as goal

pub returns-clause-without_dues : goal.returns-clause-without_dues
returns-clause-without_dues c = first_is

pub returns-clause-with_dues : goal.returns-clause-with_dues
returns-clause-with_dues c = dated_is
