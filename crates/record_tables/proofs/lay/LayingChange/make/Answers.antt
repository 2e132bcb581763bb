use Rattle.std.proofs.Common.{arith, ◌∙◌}
use Rattle.sqlite.specs.Held.{state}
use Rattle.record_tables.specs.Layouts.{no_rows}
use Rattle.record_tables.proofs.LayLemmas.{laid_empty}
use Rattle.record_tables.proofs.lay.LayingChange.make.Goals as goal

pub returns-clause-ok : goal.returns-clause-ok
returns-clause-ok g c clean inside =
    let laid = c.in_ok-lay_tables.ensures.ok (omega (arith, c.fill.ensures.frame.survives.clean)) inside in
    let put = c.in_ok-fill.ensures.ok clean (laid.mode ∙ inside) in
    let old = state g.S.Store c.args.tx.now.conn.now in
    let laid_now = state g.S.Store c.lay_tables.new.tx.conn.now in
    record {
      stored = λ free. let empty = laid_empty old laid_now laid free.apart in put.stored no_rows empty.0 empty.1 tt;
      sound = λ free. let empty = laid_empty old laid_now laid free.apart in put.sound laid.sound no_rows empty.0 empty.1 tt;
    }

pub returns-clause-goes_on : goal.returns-clause-goes_on
returns-clause-goes_on g c clean inside =
    let laid = c.in_ok-lay_tables.ensures.ok (omega (arith, c.fill.ensures.frame.survives.clean)) inside in
    let put = c.in_ok-fill.ensures.ok clean (laid.mode ∙ inside) in
    record { committed = put.committed ∙ laid.committed; mode = put.mode ∙ laid.mode; is_open = put.is_open ∙ laid.is_open }
