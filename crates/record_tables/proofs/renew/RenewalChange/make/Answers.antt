use Rattle.std.proofs.Common.{◌≡◌, true, subst, arith, ◌∙◌, map, refl}
use Rattle.sqlite.specs.Held.{state}
use Rattle.record_tables.specs.Changes.{Always, with_plan}
use Rattle.record_tables.specs.Layouts.{TellsAlone}
use Rattle.record_tables.specs.CodeRows.{due_of, class_entry_of, rule_of}
use Rattle.record_tables.proofs.DropLemmas.{renewed}
use Rattle.record_tables.proofs.Loops.{turned_alone}
use Rattle.record_tables.proofs.renew.RenewalChange.make.Goals as goal

pub returns-in_ok-put_plan-clause-ok : goal.returns-in_ok-put_plan-clause-ok
returns-in_ok-put_plan-clause-ok g c clean inside =
    let old = state g.S.Store c.args.tx.now.conn.now in
    let mid = state g.S.Store c.empty_dues.new.tx.conn.now in
    let new = state g.S.Store c.put_plan.new.tx.conn.now in
    let gone = c.in_ok-empty_dues.ensures.ok (omega (arith, c.put_plan.ensures.frame.survives.clean)) inside in
    let has : c.args.self.is_alone ≡ true = search in
    let tells = subst (TellsAlone old.now.schema) has c.requires.0 in
    turned_alone old new Always _
    (renewed old mid new
    (with_plan (map rule_of c.args.self.schedules.now) (map class_entry_of c.args.self.classes.now)
    (map due_of c.args.self.dues.now)) (λ t. refl) tells gone (c.in_ok-put_plan.ensures.ok clean (gone.mode
    ∙ inside)))

pub returns-in_ok-put_plan-2-clause-ok : goal.returns-in_ok-put_plan-2-clause-ok
returns-in_ok-put_plan-2-clause-ok g c clean inside =
    turned_alone (state g.S.Store c.args.tx.now.conn.now) (state g.S.Store c.put_plan-else-self.new.tx.conn.now) Always _
    (c.in_ok-put_plan-2.ensures.ok clean inside)
