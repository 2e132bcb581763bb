use Rattle.std.proofs.Common.{take, Ok}
use Rattle.sqlite.specs.declared.error.Error.{Error}
use Rattle.record_tables.specs.Steps.{Writes}
use Rattle.record_tables.specs.Changes.{IsPastRecords}
use Rattle.record_archive.specs.Archive.{records_of}
use Rattle.record_store.specs.Captures.{with_records}
use Rattle.record_store.proofs.changes.insert_records.Given as goal

abbrev pub invariant-loop-i : goal.invariant-loop-i
invariant-loop-i g l =
    Writes {T = Unit} {E = Error} g.S.Store l.fn.tx.conn l.tx.conn (Ok tt) (IsPastRecords l.first)
    (with_records (records_of l.first l.first l.day (take l.i l.paths)))
