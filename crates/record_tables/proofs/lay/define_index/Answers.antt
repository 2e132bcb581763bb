use Rattle.std.proofs.Common.{◌∙◌, sym}
use Rattle.sqlite.specs.Held.{state}
use Rattle.sqlite.specs.Table.{Table}
use Rattle.sqlite_schema.specs.declared.schema.Index.{Index}
use Rattle.record_tables.proofs.LayLemmas.{lays_index}
use Rattle.record_tables.proofs.lay.define_index.Goals as goal

pub returns-clause-ok : goal.returns-clause-ok
returns-clause-ok g c = λ (table : Table) (index : Index) d clean inside.
    lays_index (state g.S.Store c.args.tx.now.conn.now) (state g.S.Store c.execute.new.self.conn.now)
    c.args.text.now table index c.in_ok-execute.field-0 d inside (c.in_ok-execute.ensures.runs clean inside)

pub returns-clause-goes_on : goal.returns-clause-goes_on
returns-clause-goes_on g c clean inside =
    let h = c.in_ok-execute.ensures.runs clean inside in
    record { committed = h.1.committed_is; mode = h.1.mode ∙ sym inside; is_open = h.1.is_open ∙ sym h.1.was_open }
