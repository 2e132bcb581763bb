use Rattle.std.proofs.Common.{◌≡◌, ◌∙◌, refl, ap, map, rules}
use Rattle.class_plan.specs.Plans.{IsPlan}
use Rattle.record_tables.specs.Changes.{Always}
use Rattle.record_tables.specs.Changes as tables
use Rattle.record_tables.specs.CodeRows.{due_of, class_entry_of, rule_of}
use Rattle.record_rows.specs.Rules as rows
use Rattle.record_archive.specs.Archive.{Archive}
use Rattle.record_store.specs.Revisions.{IsRevision, with_plan}
use Rattle.record_store.specs.Companions.{LeavesBothWhere}
use Rattle.record_store.proofs.CommandLemmas.{fell, stands_both, brought_both, leaves_both}
use Rattle.record_store.proofs.ReviseLemmas.{revised_is_archive, stores_revised}
use Rattle.record_store.proofs.Causes.{behaves_busy}
use Rattle.record_store.proofs.store.Store.place_plan.Given.{Over}
use Rattle.record_store.proofs.store.Store.place_plan.Goals.{After-replace_plan_with}
use Rattle.record_store.proofs.store.Store.place_plan.Goals as goal

rules_are : (g : Over) (c : After-replace_plan_with g) → map rule_of c.as_slice-rules.result.now ≡ rows.rules_of c.args.plan
rules_are g c = ap (map rule_of) c.as_slice-rules.ensures.value ∙ c.in_ok-rules.ensures

classes_are : (g : Over) (c : After-replace_plan_with g) → map class_entry_of c.as_slice-classes.result.now ≡ rows.classes_of c.args.plan
classes_are g c = ap (map class_entry_of) c.as_slice-classes.ensures.value ∙ c.in_ok-classes.ensures

left : (g : Over) (c : After-replace_plan_with g) → LeavesBothWhere g.S.Store (g.D.Companion.needs c.args.companion)
    (g.D.Companion.brings c.args.companion) c.args.self.now (record c.args.self.now { conn = c.replace_plan_with.new.conn })
    (λ a. IsRevision a c.args.plan (map due_of c.args.dues.now)) (λ a. with_plan a c.args.plan)
left g c = λ (a : Archive) s ready.
    let p = c.args.plan in
    let ds = map due_of c.args.dues.now in
    let rs = map rule_of c.as_slice-rules.result.now in
    let cs = map class_entry_of c.as_slice-classes.result.now in
    leaves_both g.S.Store c.args.self.now a (with_plan a p) Always (tables.with_plan rs cs ds) (g.D.Companion.needs c.args.companion)
    (g.D.Companion.brings c.args.companion) s ready c.replace_plan_with.new.conn
    (IsRevision a p ds)
    (λ is. let plan : IsPlan p = search rules in revised_is_archive a p s.archive plan is.kept) (λ was kept is. tt)
    (λ was db kept is turns. stores_revised a p rs cs ds (rules_are g c) (classes_are g c) is.dues was db kept turns)
    c.replace_plan_with.ensures.live c.replace_plan_with.ensures.crash

pub returns-in-Ok-clause-ok : goal.returns-in-Ok-clause-ok
returns-in-Ok-clause-ok g c = λ ready (a : Archive) s is.
    let p = c.args.plan in
    let ds = map due_of c.args.dues.now in
    let rs = map rule_of c.as_slice-rules.result.now in
    let cs = map class_entry_of c.as_slice-classes.result.now in
    let after = (goal.at.returns-in-Ok-clause-ok g c).After-replace_plan_with in
    let plan : IsPlan p = search rules in
    stands_both g.S.Store c.args.self.now a (with_plan a p) Always (tables.with_plan rs cs ds) (g.D.Companion.needs c.args.companion)
    (g.D.Companion.brings c.args.companion) s ready _
    (revised_is_archive a p s.archive plan is.kept) c.replace_plan_with.ensures.idle refl s.next s.held s.others
    (fell g.S.Store c.args.self.now.conn c.replace_plan_with.new.conn _ c.replace_plan_with.ensures.crash)
    c.replace_plan_with.ensures.was_open c.in-Ok.ensures.ok
    (stores_revised a p rs cs ds (rules_are g after) (classes_are g after) is.dues)

pub returns-in-Ok-clause-brought : goal.returns-in-Ok-clause-brought
returns-in-Ok-clause-brought g c = λ (a : Archive) s ready is.
    let rs = map rule_of c.as_slice-rules.result.now in
    let cs = map class_entry_of c.as_slice-classes.result.now in
    brought_both g.S.Store c.args.self.now a a Always (tables.with_plan rs cs (map due_of c.args.dues.now)) (g.D.Companion.needs c.args.companion)
    (g.D.Companion.brings c.args.companion) s ready
    c.replace_plan_with.new.conn (λ was kept. tt)
    (fell g.S.Store c.args.self.now.conn c.replace_plan_with.new.conn _ c.replace_plan_with.ensures.crash)
    c.replace_plan_with.ensures.was_open c.in-Ok.ensures.open c.in-Ok.ensures.ok

pub returns-in-Ok-clause-crash : goal.returns-in-Ok-clause-crash
returns-in-Ok-clause-crash g c = left g (goal.at.returns-in-Ok-clause-crash g c).After-replace_plan_with

pub returns-in-Err-clause-crash : goal.returns-in-Err-clause-crash
returns-in-Err-clause-crash g c = left g (goal.at.returns-in-Err-clause-crash g c).After-replace_plan_with

pub returns-then-not-is_autocommit-clause-behaves : goal.returns-then-not-is_autocommit-clause-behaves
returns-then-not-is_autocommit-clause-behaves g c =
    behaves_busy g.S.Store _ _ _ c.is_autocommit.ensures.value c.if-not-is_autocommit.true
