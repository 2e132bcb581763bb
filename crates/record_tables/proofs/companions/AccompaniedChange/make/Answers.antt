use Rattle.std.proofs.Common.{arith, ◌∙◌}
use Rattle.sqlite.specs.Held.{state}
use Rattle.record_tables.proofs.companions.AccompaniedChange.make.Goals as goal

pub returns-clause-ok : goal.returns-clause-ok
returns-clause-ok g c clean inside =
    let first = c.in_ok-make.ensures.ok (omega (arith, c.make-2.ensures.frame.survives.clean)) inside in
    let on = c.in_ok-make.ensures.goes_on (omega (arith, c.make-2.ensures.frame.survives.clean)) inside in
    ((state g.S.Store c.make.new.tx.conn.now).now, first, c.in_ok-make-2.ensures.ok clean (on.mode ∙ inside))

pub returns-clause-goes_on : goal.returns-clause-goes_on
returns-clause-goes_on g c clean inside =
    let one = c.in_ok-make.ensures.goes_on (omega (arith, c.make-2.ensures.frame.survives.clean)) inside in
    let two = c.in_ok-make-2.ensures.goes_on clean (one.mode ∙ inside) in
    record { committed = two.committed ∙ one.committed; mode = two.mode ∙ one.mode; is_open = two.is_open ∙ one.is_open }
