use Rattle.std.proofs.Common.{◌≡◌, true, subst, arith, ◌∙◌}
use Rattle.sqlite.specs.Held.{state}
use Rattle.record_tables.specs.Layouts.{TellsDues}
use Rattle.record_tables.proofs.DropLemmas.{widened, widened_bare, told_with}
use Rattle.record_tables.proofs.lay.lay_beside.Goals as goal

pub returns-in_ok-lay_later-clause-ok : goal.returns-in_ok-lay_later-clause-ok
returns-in_ok-lay_later-clause-ok g c clean inside =
    let old = state g.S.Store c.args.tx.now.conn.now in
    let mid = state g.S.Store c.drop_dues.new.tx.conn.now in
    let new = state g.S.Store c.lay_later.new.tx.conn.now in
    let dropped = c.in_ok-drop_dues.ensures.ok (omega (arith, c.lay_later.ensures.frame.survives.clean)) inside in
    let laid = c.in_ok-lay_later.ensures.ok clean (dropped.mode ∙ inside) in
    let has : c.args.has_dues ≡ true = search in
    let told = subst (TellsDues old.now.schema) has c.requires in
    record { stored = λ t s. told_with old.now t s told (λ on. widened old mid new t dropped laid on s); sound = λ t s. laid.sound }

pub returns-in_ok-lay_later-2-clause-ok : goal.returns-in_ok-lay_later-2-clause-ok
returns-in_ok-lay_later-2-clause-ok g c clean inside =
    let old = state g.S.Store c.args.tx.now.conn.now in
    let new = state g.S.Store c.lay_later-else-has_dues.new.tx.conn.now in
    let laid = c.in_ok-lay_later-2.ensures.ok clean inside in
    record { stored = λ t s. widened_bare old new t laid s; sound = λ t s. laid.sound }
