use Rattle.std.proofs.Common.{sym, ap, ◌∙◌, ◌≡◌, ◌+◌, Ok}
use Rattle.record_tables.specs.Changes as tables
use Rattle.record_tables.specs.Changes.{Always}
use Rattle.record_archive.specs.Archive as archive
use Rattle.record_archive.specs.Archive.{Archive}
use Rattle.record_adoption.specs.Counts.{only_at}
use Rattle.record_store.specs.Companions.{LeavesBothWhere}
use Rattle.record_store.proofs.CommandLemmas.{fell, stands_both, brought_both, leaves_both}
use Rattle.record_store.proofs.HoldLemmas.{held_is_archive, stores_held, count_held}
use Rattle.record_store.proofs.Causes.{behaves_busy}
use Rattle.record_store.proofs.store.Store.place_hold.Given.{Over}
use Rattle.record_store.proofs.store.Store.place_hold.Goals.{After-transact}
use Rattle.record_store.proofs.store.Store.place_hold.Goals as goal

pub returns-in-Ok-transact-clause-ok : goal.returns-in-Ok-transact-clause-ok
returns-in-Ok-transact-clause-ok g c = λ ready (a : Archive) s e.
    let name = c.args.name.now in
    let n = c.args.number in
    stands_both g.S.Store c.args.self.now a (archive.with_hold a name n) Always (tables.with_hold name n) (g.D.Companion.needs c.args.companion)
    (g.D.Companion.brings c.args.companion) s ready _
    (held_is_archive a name n s.archive e) c.transact.ensures.idle s.plan s.next
    (λ m. c.in-Ok.ensures.ok m ∙ ap (λ k. k + only_at n 1 m) (s.held m)
    ∙ sym (count_held a name n m)) s.others (fell g.S.Store c.args.self.now.conn c.transact.new.conn _ c.transact.ensures.crash)
    c.transact.ensures.was_open c.in-Ok-transact.ensures.ok (stores_held name n a)

pub returns-in-Ok-transact-clause-brought : goal.returns-in-Ok-transact-clause-brought
returns-in-Ok-transact-clause-brought g c = λ (a : Archive) s ready e.
    let name = c.args.name.now in
    let n = c.args.number in
    brought_both g.S.Store c.args.self.now a (archive.with_hold a name n) Always (tables.with_hold name n) (g.D.Companion.needs c.args.companion)
    (g.D.Companion.brings c.args.companion) s ready c.transact.new.conn
    (λ was kept. tt) (fell g.S.Store c.args.self.now.conn c.transact.new.conn _ c.transact.ensures.crash)
    c.transact.ensures.was_open c.in-Ok-transact.ensures.open c.in-Ok-transact.ensures.ok

left : (g : Over) (c : After-transact g) → LeavesBothWhere g.S.Store (g.D.Companion.needs c.args.companion) (g.D.Companion.brings c.args.companion)
    c.args.self.now (record c.args.self.now { conn = c.transact.new.conn })
    (λ a. archive.hold a c.args.name.now c.args.number ≡ Ok (archive.with_hold a c.args.name.now c.args.number))
    (λ a. archive.with_hold a c.args.name.now c.args.number)
left g c = λ (a : Archive) s ready.
    let name = c.args.name.now in
    let n = c.args.number in
    leaves_both g.S.Store c.args.self.now a (archive.with_hold a name n) Always (tables.with_hold name n) (g.D.Companion.needs c.args.companion)
    (g.D.Companion.brings c.args.companion) s ready c.transact.new.conn
    (archive.hold a name n ≡ Ok (archive.with_hold a name n)) (held_is_archive a name n s.archive)
    (λ was kept legal. tt) (λ was db kept legal turns. stores_held name n a was db kept turns) c.transact.ensures.live
    c.transact.ensures.crash

pub returns-in-Ok-transact-clause-crash : goal.returns-in-Ok-transact-clause-crash
returns-in-Ok-transact-clause-crash g c = left g (goal.at.returns-in-Ok-transact-clause-crash g c).After-transact

pub returns-in-Err-clause-crash : goal.returns-in-Err-clause-crash
returns-in-Err-clause-crash g c = left g (goal.at.returns-in-Err-clause-crash g c).After-transact

pub returns-then-not-is_autocommit-clause-behaves : goal.returns-then-not-is_autocommit-clause-behaves
returns-then-not-is_autocommit-clause-behaves g c =
    behaves_busy g.S.Store _ _ _ c.is_autocommit.ensures.value c.if-not-is_autocommit.true
