use Rattle.record_adoption.specs.Counts.{count_at, only_at}
use Rattle.std.proofs.Common.{◌≡◌, ◌+◌, ◌-◌, length, refl, sym, ap, ◌∙◌, map}
use Rattle.record_tables.specs.CodeRows.{due_of}
use Rattle.record_archive.specs.Archive.{Archive, after_capture}
use Rattle.record_store.specs.Companions.{LeavesBothWhere}
use Rattle.record_store.proofs.CaptureStands.{Given, stands_captured, brought_captured, leaves_captured}
use Rattle.record_store.proofs.Causes.{behaves_busy}
use Rattle.record_store.proofs.CommandLemmas.{fell}
use Rattle.record_store.proofs.store.Store.place_capture.Given.{Over}
use Rattle.record_store.proofs.store.Store.place_capture.Goals.{After-transact}
use Rattle.record_store.proofs.store.Store.place_capture.Goals as goal

given : (g : Over) (c : After-transact g) → Given c.args.self.now c.args.day c.args.first c.args.paths.now (map due_of c.args.dues.now)
given g c =
    record {
      some = c.requires.some;
      room = c.requires.room;
      first = c.requires.first;
      classes = c.requires.classes;
      day = c.requires.day;
      dues = c.requires.dues;
    }

left : (g : Over) (c : After-transact g) → LeavesBothWhere g.S.Store (g.D.Companion.needs c.args.companion) (g.D.Companion.brings c.args.companion)
    c.args.self.now (record c.args.self.now { conn = c.transact.new.conn })
    (λ a. Unit {0}) (λ a. after_capture a c.args.body.now c.args.day c.args.paths.now)
left g c = λ (a : Archive) s ready.
    leaves_captured g.S.Store (g.D.Companion.needs c.args.companion) (g.D.Companion.brings c.args.companion) c.args.self.now
    c.transact.new.conn a s ready c.args.body.now c.args.day c.args.first
    c.args.paths.now (map due_of c.args.dues.now) (given g c) c.transact.ensures.live c.transact.ensures.crash

pub returns-in-Ok-transact-clause-ok : goal.returns-in-Ok-transact-clause-ok
returns-in-Ok-transact-clause-ok g c = λ ready (a : Archive) s e.
    let long : length c.as_slice.result.now ≡ length c.args.paths.now = ap length c.as_slice.ensures in
    stands_captured g.S.Store (g.D.Companion.needs c.args.companion) (g.D.Companion.brings c.args.companion) c.args.self.now _ a s ready
    c.args.body.now c.args.day c.args.first c.args.paths.now
    (map due_of c.args.dues.now) (given g (goal.at.returns-in-Ok-transact-clause-ok g c).After-transact)
    c.transact.ensures.idle refl (ap (λ k. k + length c.as_slice.result.now) (sym c.requires.first)
    ∙ ap (λ k. c.args.first + k) long) (λ m. refl)
    (λ m. c.in-Ok.ensures.ok m
    ∙ ap (λ k. count_at c.args.self.now.others m + only_at c.args.first (k - 1) m) long)
    (fell g.S.Store c.args.self.now.conn c.transact.new.conn _ c.transact.ensures.crash)
    c.transact.ensures.was_open c.in-Ok-transact.ensures.ok

pub returns-in-Ok-transact-clause-brought : goal.returns-in-Ok-transact-clause-brought
returns-in-Ok-transact-clause-brought g c = λ (a : Archive) s ready e.
    brought_captured g.S.Store (g.D.Companion.needs c.args.companion) (g.D.Companion.brings c.args.companion) c.args.self.now
    c.transact.new.conn a s ready c.args.body.now c.args.day c.args.first c.args.paths.now
    (map due_of c.args.dues.now) (given g (goal.at.returns-in-Ok-transact-clause-brought g c).After-transact)
    (fell g.S.Store c.args.self.now.conn c.transact.new.conn _ c.transact.ensures.crash)
    c.transact.ensures.was_open c.in-Ok-transact.ensures.open c.in-Ok-transact.ensures.ok

pub returns-in-Ok-transact-clause-crash : goal.returns-in-Ok-transact-clause-crash
returns-in-Ok-transact-clause-crash g c = left g (goal.at.returns-in-Ok-transact-clause-crash g c).After-transact

pub returns-in-Err-clause-crash : goal.returns-in-Err-clause-crash
returns-in-Err-clause-crash g c = left g (goal.at.returns-in-Err-clause-crash g c).After-transact

pub returns-then-not-is_autocommit-clause-behaves : goal.returns-then-not-is_autocommit-clause-behaves
returns-then-not-is_autocommit-clause-behaves g c =
    behaves_busy g.S.Store _ _ _ c.is_autocommit.ensures.value c.if-not-is_autocommit.true
