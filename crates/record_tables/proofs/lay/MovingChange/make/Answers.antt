use Rattle.std.proofs.Common.{arith, ◌∙◌, subst, IsTrue, Result, Ok, Err, OnErr}
use Rattle.sqlite.specs.Held.{state}
use Rattle.sqlite.specs.State.{HasCleanDisk}
use Rattle.record_tables.proofs.lay.MovingChange.make.Goals as goal

on_err : {T E : Type 0} (r : Result T E) (P : Type 0) → P → OnErr r P
on_err (Ok x) P p = tt
on_err (Err e) P p = p

pub returns-clause-ok : goal.returns-clause-ok
returns-clause-ok g c clean inside =
    let before : HasCleanDisk (state g.S.Store c.lay_beside.new.tx.conn.now) = omega (arith, c.fill.ensures.frame.survives.clean) in
    let wide = c.in_ok-lay_beside.ensures.ok before inside in
    let put = c.in_ok-fill.ensures.ok clean ((c.in_ok-lay_beside.ensures.goes_on before inside).mode ∙ inside) in
    record {
      stored = λ t s keyed. put.stored t (wide.stored t s) keyed tt;
      sound = λ t s keyed. put.sound (wide.sound t s) t (wide.stored t s) keyed tt;
    }

pub returns-clause-goes_on : goal.returns-clause-goes_on
returns-clause-goes_on g c clean inside =
    let on = c.in_ok-lay_beside.ensures.goes_on (omega (arith, c.fill.ensures.frame.survives.clean)) inside in
    let put = c.in_ok-fill.ensures.ok clean (on.mode ∙ inside) in
    record { committed = put.committed ∙ on.committed; mode = put.mode ∙ on.mode; is_open = put.is_open ∙ on.is_open }

pub returns-in_err-fill-clause-err : goal.returns-in_err-fill-clause-err
returns-in_err-fill-clause-err g c clean inside =
    let on = c.in_ok-lay_beside.ensures.goes_on (omega (arith, c.fill.ensures.frame.survives.clean)) inside in
    let left = c.in_err-fill.ensures.frame.err clean (on.mode ∙ inside) in
    on_err c.from_residual-in_err-fill.result _ (record {
      was_open = λ is. subst IsTrue on.is_open (left.was_open is);
      committed = λ is. left.committed is ∙ on.committed;
    })
