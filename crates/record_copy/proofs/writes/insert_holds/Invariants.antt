use Rattle.std.proofs.Common.{map, take, Ok}
use Rattle.sqlite.specs.declared.error.Error.{Error}
use Rattle.record_tables.specs.Steps.{Writes}
use Rattle.record_tables.specs.CodeRows.{hold_entry_of}
use Rattle.record_copy.specs.NewRows.{HasNoHolds, with_holds}
use Rattle.record_copy.proofs.writes.insert_holds.Given as goal

abbrev pub invariant-loop-hold : goal.invariant-loop-hold
invariant-loop-hold g l =
    Writes {T = Unit} {E = Error} g.S.Store l.fn.tx.conn l.tx.conn (Ok tt) HasNoHolds
    (with_holds (map hold_entry_of (take l.hold-index l.holds)))
