use Rattle.std.proofs.Common.{◌≡◌, Ok}
use Rattle.sqlite.specs.State.{HasCleanDisk}
use Rattle.sqlite.specs.Held.{state}
use Rattle.record_archive.specs.Archive.{Archive}
use Rattle.record_archive.specs.Refiling as archive
use Rattle.record_store.specs.Companions.{LeavesBoth}
use Rattle.record_store.specs.Refiling.{IsRefiling}
use Rattle.record_store.specs.Stores.{StandsFor}
use Rattle.record_store.proofs.AllowedLemmas.{obeys_allowed, brought_allowed, leaves_allowed}
use Rattle.record_store.proofs.RefileLemmas.{is_refiled}
use Rattle.record_store.proofs.store.Store.refile_with.Given.{Over}
use Rattle.record_store.proofs.store.Store.refile_with.Goals.{After-place_in_class}
use Rattle.record_store.proofs.store.Store.refile_with.Goals as goal

abbrev Is : (g : Over) → After-place_in_class g → Archive → Type 0
Is g c a = IsRefiling a c.args.number c.args.path.now c.in_ok-due.due

judged : (g : Over) (c : After-place_in_class g) → (a : Archive) → StandsFor g.S.Store c.args.self.now a
    → StandsFor g.S.Store c.judge_refiling.new.self a × (HasCleanDisk (state g.S.Store c.judge_refiling.new.self.conn) → Is g c a
    × (archive.refile a c.args.number c.args.path.now ≡ Ok (archive.refiled a c.args.number c.args.path.now)))
judged g c = λ (a : Archive) s.
    let t = c.in_ok-due.ensures.tells a s in (
      t.0,
      λ clean. let it = t.1 clean in (it, is_refiled a c.args.number c.args.path.now it.at it.found it.live it.class),
    )

left : (g : Over) (c : After-place_in_class g) → LeavesBoth g.S.Store (g.D.Companion.needs c.args.companion)
    (g.D.Companion.brings c.args.companion) c.args.self.now c.place_in_class.new.self (λ a. archive.refile a c.args.number c.args.path.now)
left g c =
    leaves_allowed g.S.Store (g.D.Companion.needs c.args.companion) (g.D.Companion.brings c.args.companion) c.args.self.now
    c.judge_refiling.new.self c.place_in_class.new.self (λ a. archive.refile a c.args.number c.args.path.now)
    (Is g c) (λ a. archive.refiled a c.args.number c.args.path.now) (judged g c) c.judge_refiling.ensures.still
    c.judge_refiling.ensures.behaves.falls c.judge_refiling.ensures.crash c.in_ok-due.ensures.behaves.open c.place_in_class.ensures.crash

pub returns-clause-obeys : goal.returns-clause-obeys
returns-clause-obeys g c =
    let at = (goal.at.returns-clause-obeys g c).After-place_in_class in
    obeys_allowed g.S.Store (g.D.Companion.needs c.args.companion) (g.D.Companion.brings c.args.companion) c.args.self.now
    c.judge_refiling.new.self c.place_in_class.new.self
    (λ a. archive.refile a c.args.number c.args.path.now) (Is g at) (λ a. archive.refiled a c.args.number c.args.path.now) (judged g at)
    c.judge_refiling.ensures.still c.judge_refiling.ensures.behaves.falls c.in_ok-place_in_class.ensures.ok
    c.place_in_class.ensures.behaves.falls

pub returns-clause-brought : goal.returns-clause-brought
returns-clause-brought g c =
    let at = (goal.at.returns-clause-brought g c).After-place_in_class in
    brought_allowed g.S.Store (g.D.Companion.needs c.args.companion) (g.D.Companion.brings c.args.companion) c.args.self.now
    c.judge_refiling.new.self c.place_in_class.new.self
    (λ a. archive.refile a c.args.number c.args.path.now) (Is g at) (λ a. archive.refiled a c.args.number c.args.path.now) (judged g at)
    c.judge_refiling.ensures.still c.judge_refiling.ensures.behaves.falls c.in_ok-place_in_class.ensures.brought
    c.place_in_class.ensures.behaves.falls c.in_ok-due.ensures.behaves.open

pub returns-clause-crash : goal.returns-clause-crash
returns-clause-crash g c = left g (goal.at.returns-clause-crash g c).After-place_in_class

pub returns-in_err-place_in_class-clause-crash : goal.returns-in_err-place_in_class-clause-crash
returns-in_err-place_in_class-clause-crash g c = left g (goal.at.returns-in_err-place_in_class-clause-crash g c).After-place_in_class
