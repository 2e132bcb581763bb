use Rattle.std.proofs.Common.{map, take, Ok}
use Rattle.sqlite.specs.declared.error.Error.{Error}
use Rattle.record_tables.specs.Steps.{Writes}
use Rattle.record_tables.specs.CodeRows.{due_of}
use Rattle.record_store.specs.Captures.{AreAfter, with_more_dues}
use Rattle.record_store.proofs.changes.insert_due_days.Given as goal

abbrev pub invariant-loop-due : goal.invariant-loop-due
invariant-loop-due g l =
    let dues = map due_of (take l.due-index l.dues) in
    Writes {T = Unit} {E = Error} g.S.Store l.fn.tx.conn l.tx.conn (Ok tt) (AreAfter dues) (with_more_dues dues)
