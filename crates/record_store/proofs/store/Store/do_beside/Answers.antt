use Rattle.std.proofs.Common.{refl, sym, ap, ◌∙◌, true≢false}
use Rattle.sqlite.specs.Held.{state}
use Rattle.sqlite.proofs.StateLemmas.{survives_weaker}
use Rattle.record_tables.specs.Changes.{Always}
use Rattle.record_archive.specs.Archive.{Archive}
use Rattle.record_archive.specs.Calls.{unchanged}
use Rattle.record_archive.specs.Faults.{is_trouble}
use Rattle.record_store.specs.Companions.{LeavesBoth}
use Rattle.record_store.proofs.CommandLemmas.{fell, is_trouble-fault_of, stands_both, brought_both, stands_refused, leaves_both, stores_same}
use Rattle.record_store.proofs.Causes.{behaves_busy}
use Rattle.record_store.proofs.store.Store.do_beside.Given.{Over}
use Rattle.record_store.proofs.store.Store.do_beside.Goals.{After-transact}
use Rattle.record_store.proofs.store.Store.do_beside.Goals as goal

pub returns-in-Ok-clause-obeys : goal.returns-in-Ok-clause-obeys
returns-in-Ok-clause-obeys g c = λ ready (a : Archive) s. (
  stands_both g.S.Store c.args.self.now a a Always (λ t. t) (g.D.Companion.needs c.args.companion) (g.D.Companion.brings
      c.args.companion) s ready _ s.archive c.transact.ensures.idle s.plan s.next s.held s.others
      (fell g.S.Store c.args.self.now.conn c.transact.new.conn _ c.transact.ensures.crash)
      c.transact.ensures.was_open c.in-Ok.ensures.ok (stores_same a),
  tt,
)

pub returns-in-Ok-clause-brought : goal.returns-in-Ok-clause-brought
returns-in-Ok-clause-brought g c = λ (a : Archive) s ready.
    brought_both g.S.Store c.args.self.now a a Always (λ t. t) (g.D.Companion.needs c.args.companion) (g.D.Companion.brings
    c.args.companion) s ready c.transact.new.conn
    (λ was kept. tt) (fell g.S.Store c.args.self.now.conn c.transact.new.conn _ c.transact.ensures.crash)
    c.transact.ensures.was_open c.in-Ok.ensures.open c.in-Ok.ensures.ok

left : (g : Over) (c : After-transact g) → LeavesBoth g.S.Store (g.D.Companion.needs c.args.companion) (g.D.Companion.brings c.args.companion)
    c.args.self.now (record c.args.self.now { conn = c.transact.new.conn }) unchanged
left g c = λ (a : Archive) s ready is_open.
    survives_weaker (state g.S.Store c.args.self.now.conn) (state g.S.Store c.transact.new.conn) _ _
    (λ clean trees it. (a, refl, it is_open tt))
    (leaves_both g.S.Store c.args.self.now a a Always (λ t. t) (g.D.Companion.needs c.args.companion) (g.D.Companion.brings
    c.args.companion) s ready c.transact.new.conn Unit
    (λ legal. s.archive) (λ was kept legal. tt) (λ was db kept legal turns. stores_same a was db kept turns)
    c.transact.ensures.live c.transact.ensures.crash)

pub returns-in-Ok-clause-crash : goal.returns-in-Ok-clause-crash
returns-in-Ok-clause-crash g c = left g (goal.at.returns-in-Ok-clause-crash g c).After-transact

pub returns-in-Err-clause-crash : goal.returns-in-Err-clause-crash
returns-in-Err-clause-crash g c = left g (goal.at.returns-in-Err-clause-crash g c).After-transact

pub returns-in-Err-clause-obeys : goal.returns-in-Err-clause-obeys
returns-in-Err-clause-obeys g c = λ (a : Archive) s. (
  stands_refused g.S.Store c.args.self.now _ a s c.transact.ensures.idle refl refl (λ n. refl) (λ m. refl)
      (fell g.S.Store c.args.self.now.conn c.transact.new.conn _ c.transact.ensures.crash)
      c.transact.ensures.was_open (λ clean is_open. (c.in-Err.ensures.err clean is_open).0),
  λ r is. absurd (true≢false (sym (is_trouble-fault_of c.in-Err.error) ∙ ap is_trouble (sym c.fault_of.ensures ∙ is))),
)

pub returns-then-not-is_autocommit-clause-behaves : goal.returns-then-not-is_autocommit-clause-behaves
returns-then-not-is_autocommit-clause-behaves g c =
    behaves_busy g.S.Store _ _ _ c.is_autocommit.ensures.value c.if-not-is_autocommit.true
