use Rattle.std.proofs.Common.{map, take, Ok}
use Rattle.sqlite.specs.declared.error.Error.{Error}
use Rattle.record_tables.specs.Steps.{Writes}
use Rattle.record_tables.specs.CodeRows.{record_of}
use Rattle.record_copy.specs.NewRows.{IsFreshFor, with_records}
use Rattle.record_copy.proofs.writes.insert_records.Given as goal

abbrev pub invariant-loop-row : goal.invariant-loop-row
invariant-loop-row g l =
    Writes {T = Unit} {E = Error} g.S.Store l.fn.tx.conn l.tx.conn (Ok tt) (IsFreshFor (map record_of l.rows))
    (with_records (map record_of (take l.row-index l.rows)))
