use Rattle.std.proofs.Common.{refl, true, None, subst, sym, ap, ◌∙◌, true≢false}
use Rattle.class_plan.specs.Plans.{IsPlan}
use Rattle.class_plan.proofs.Removed.{without-added}
use Rattle.record_tables.specs.Changes.{Always, with_class}
use Rattle.class_plan.specs.Changes.{addition}
use Rattle.record_archive.specs.Archive as archive
use Rattle.record_archive.specs.Archive.{Archive, plan_answer}
use Rattle.record_store.specs.Revisions.{with_plan}
use Rattle.record_archive.specs.Calls.{Quietly}
use Rattle.record_archive.specs.Faults.{is_trouble}
use Rattle.record_store.specs.Companions.{LeavesBoth}
use Rattle.record_store.specs.Stores.{Becomes}
use Rattle.record_store.proofs.AllowedLemmas.{ready_refused}
use Rattle.record_store.proofs.CommandLemmas.{fell, is_trouble-fault_of, obeys_refused, stands_planned, stands_both}
use Rattle.record_store.proofs.CommandLemmas.{brought_both, stands_refused, leaves_both}
use Rattle.record_store.proofs.ClassLemmas.{is_added, added_archive, keeps_added, same_dues, leaves_added}
use Rattle.record_store.proofs.Causes.{behaves_busy}
use Rattle.record_store.proofs.store.Store.add_class_with.Given.{Over}
use Rattle.record_store.proofs.store.Store.add_class_with.Goals.{After-transact}
use Rattle.record_store.proofs.store.Store.add_class_with.Goals as goal

pub remove-requires : goal.remove-requires
remove-requires g c =
    let same = without-added c.args.self.now.plan c.plan_class.new.plan c.args.path.now c.in_ok-plan_class.ensures.ok in
    subst IsPlan (sym same) c.in_ok-plan_class.ensures.plans.0

pub returns-in-Ok-clause-obeys : goal.returns-in-Ok-clause-obeys
returns-in-Ok-clause-obeys g c = λ ready (a : Archive) s.
    let p = c.args.self.now.plan in
    let q = c.plan_class.new.plan in
    let path = c.args.path.now in
    let made = c.in_ok-plan_class.ensures.ok in (
      subst (Becomes g.S.Store _) (sym (is_added a p q path s.plan made))
          (stands_both g.S.Store c.args.self.now a (with_plan a q) Always (with_class path true None) (g.D.Companion.needs c.args.companion)
          (g.D.Companion.brings c.args.companion) s ready _
          (added_archive a p q path s.plan made s.archive c.in_ok-plan_class.ensures.plans.1)
          c.transact.ensures.idle refl s.next s.held s.others (fell g.S.Store c.args.self.now.conn c.transact.new.conn _ c.transact.ensures.crash)
          c.transact.ensures.was_open c.in-Ok.ensures.ok
          (keeps_added a p q path s.plan made s.archive)),
      tt,
    )

pub returns-in-Ok-clause-dues : goal.returns-in-Ok-clause-dues
returns-in-Ok-clause-dues g c = λ (a : Archive) s.
    same_dues a c.args.self.now.plan c.plan_class.new.plan c.args.path.now s.plan c.in_ok-plan_class.ensures.ok
    s.archive

pub returns-in-Ok-clause-brought : goal.returns-in-Ok-clause-brought
returns-in-Ok-clause-brought g c = λ (a : Archive) s ready.
    brought_both g.S.Store c.args.self.now a a Always (with_class c.args.path.now true None) (g.D.Companion.needs c.args.companion)
    (g.D.Companion.brings c.args.companion) s ready c.transact.new.conn
    (λ was kept. tt) (fell g.S.Store c.args.self.now.conn c.transact.new.conn _ c.transact.ensures.crash)
    c.transact.ensures.was_open c.in-Ok.ensures.open c.in-Ok.ensures.ok

left : (g : Over) (c : After-transact g) → LeavesBoth g.S.Store (g.D.Companion.needs c.args.companion) (g.D.Companion.brings c.args.companion)
    c.args.self.now (record c.args.self.now { conn = c.transact.new.conn }) (λ a. archive.add_class a c.args.path.now)
left g c =
    let p = c.args.self.now.plan in
    let q = c.plan_class.new.plan in
    let path = c.args.path.now in
    let made = c.in_ok-plan_class.ensures.ok in
    leaves_added g.S.Store (g.D.Companion.needs c.args.companion) (g.D.Companion.brings c.args.companion) c.args.self.now (record c.args.self.now {
      conn = c.transact.new.conn;
    }) path q made
    (λ (a : Archive) s ready.
    leaves_both g.S.Store c.args.self.now a (with_plan a q) Always (with_class path true None) (g.D.Companion.needs c.args.companion)
    (g.D.Companion.brings c.args.companion) s ready c.transact.new.conn Unit
    (λ legal. added_archive a p q path s.plan made s.archive c.in_ok-plan_class.ensures.plans.1) (λ was kept legal. tt)
    (λ was db kept legal turns. keeps_added a p q path s.plan made s.archive was db kept turns) c.transact.ensures.live c.transact.ensures.crash)

pub returns-in-Ok-clause-crash : goal.returns-in-Ok-clause-crash
returns-in-Ok-clause-crash g c = left g (goal.at.returns-in-Ok-clause-crash g c).After-transact

pub returns-in-Err-clause-crash : goal.returns-in-Err-clause-crash
returns-in-Err-clause-crash g c = left g (goal.at.returns-in-Err-clause-crash g c).After-transact

pub returns-in-Err-clause-obeys : goal.returns-in-Err-clause-obeys
returns-in-Err-clause-obeys g c = λ (a : Archive) s.
    let same = without-added c.args.self.now.plan c.plan_class.new.plan c.args.path.now c.in_ok-plan_class.ensures.ok in (
      stands_refused g.S.Store c.args.self.now _ a s c.transact.ensures.idle (c.remove.ensures
          ∙ same) refl (λ n. refl) (λ m. refl) (fell g.S.Store c.args.self.now.conn c.transact.new.conn _ c.transact.ensures.crash)
          c.transact.ensures.was_open
          (λ clean is_open. (c.in-Err.ensures.err clean is_open).0),
      λ r is. absurd (true≢false (sym (is_trouble-fault_of c.in-Err.error) ∙ ap is_trouble (sym c.fault_of.ensures ∙ is))),
    )

pub returns-in_err-plan_class-clause-obeys : goal.returns-in_err-plan_class-clause-obeys
returns-in_err-plan_class-clause-obeys g c =
    let path = c.args.path.now in
    let refused = c.in_err-plan_class.ensures in
    ready_refused g.S.Store (g.D.Companion.needs c.args.companion) c.args.self.now _ _ _ Quietly
    (obeys_refused g.S.Store c.args.self.now _ _ c.in_err-plan_class.field-0.0 _ _ c.from_residual.ensures.0 c.from_residual.ensures.1
    (λ (a : Archive) s. (
      stands_planned g.S.Store c.args.self.now c.plan_class.new.plan a refused.unchanged s,
      λ r is. ap (λ p. plan_answer a (addition p path)) (sym s.plan) ∙ refused.err r is a,
    )))

pub returns-then-not-is_autocommit-clause-behaves : goal.returns-then-not-is_autocommit-clause-behaves
returns-then-not-is_autocommit-clause-behaves g c =
    behaves_busy g.S.Store _ _ _ c.is_autocommit.ensures.value c.if-not-is_autocommit.true
