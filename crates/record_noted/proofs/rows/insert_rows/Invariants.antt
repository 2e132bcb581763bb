use Rattle.std.proofs.Common.{map}
use Rattle.record_reads.specs.Events.{event_of}
use Rattle.record_noted.proofs.RowLemmas.{Adds}
use Rattle.record_noted.proofs.rows.insert_rows.Given as goal

abbrev pub invariant-loop-row : goal.invariant-loop-row
invariant-loop-row g l = Adds g.S.Store l.fn.tx.conn l.tx.conn (map event_of l.rows) l.row-index
