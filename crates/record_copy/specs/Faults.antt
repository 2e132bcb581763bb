-- The refusals for an error of the old database and of the new one.
use Rattle.sqlite.specs.declared.error.ErrorCode.TheVariants.{OutOfMemory}
use Rattle.sqlite.specs.declared.error.Error.{Error}
use Rattle.sqlite.specs.declared.error.Error.TheVariants.{SqliteFailure}
use Rattle.record_tables.specs.declared.fault.Fault.{Fault}
use Rattle.record_tables.specs.declared.fault.Fault.TheVariants as reads
use Rattle.record_copy.specs.declared.fault.CopyFault.{CopyFault}
use Rattle.record_copy.specs.declared.fault.CopyFault.TheVariants.{NoMemory, Source, Target, Lost}

abbrev pub of_source : Fault → CopyFault
of_source reads.NoMemory = NoMemory
of_source (reads.Sqlite e) = Source e
of_source reads.NoArchive = Lost

abbrev pub of_target : Error → CopyFault
of_target (SqliteFailure OutOfMemory) = NoMemory
of_target e = Target e
