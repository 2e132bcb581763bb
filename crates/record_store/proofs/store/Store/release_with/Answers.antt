use Rattle.std.proofs.Common.{◌≡◌, Ok}
use Rattle.sqlite.specs.State.{HasCleanDisk}
use Rattle.sqlite.specs.Held.{state}
use Rattle.record_archive.specs.Archive as archive
use Rattle.record_archive.specs.Archive.{Archive}
use Rattle.record_store.specs.Companions.{LeavesBoth}
use Rattle.record_store.specs.Stores.{StandsFor}
use Rattle.record_store.proofs.AllowedLemmas.{obeys_allowed, brought_allowed, leaves_allowed}
use Rattle.record_store.proofs.store.Store.release_with.Given.{Over}
use Rattle.record_store.proofs.store.Store.release_with.Goals.{After-end_hold}
use Rattle.record_store.proofs.store.Store.release_with.Goals as goal

abbrev Is : (g : Over) → After-end_hold g → Archive → Type 0
Is g c a = archive.release a c.args.name.now c.args.number ≡ Ok (archive.without_hold a c.args.name.now c.args.number)

judged : (g : Over) (c : After-end_hold g) → (a : Archive) → StandsFor g.S.Store c.args.self.now a
    → StandsFor g.S.Store c.judge_release.new.self a × (HasCleanDisk (state g.S.Store c.judge_release.new.self.conn) → Is g c a × Is g c a)
judged g c = λ (a : Archive) s. let t = c.in_ok-judge_release.ensures.tells a s in (t.0, λ clean. (t.1 clean, t.1 clean))

left : (g : Over) (c : After-end_hold g) → LeavesBoth g.S.Store (g.D.Companion.needs c.args.companion) (g.D.Companion.brings c.args.companion)
    c.args.self.now c.end_hold.new.self (λ a. archive.release a c.args.name.now c.args.number)
left g c =
    leaves_allowed g.S.Store (g.D.Companion.needs c.args.companion) (g.D.Companion.brings c.args.companion) c.args.self.now
    c.judge_release.new.self c.end_hold.new.self (λ a. archive.release a c.args.name.now c.args.number)
    (Is g c) (λ a. archive.without_hold a c.args.name.now c.args.number) (judged g c) c.judge_release.ensures.still
    c.judge_release.ensures.behaves.falls c.judge_release.ensures.crash c.in_ok-judge_release.ensures.behaves.open c.end_hold.ensures.crash

pub returns-clause-obeys : goal.returns-clause-obeys
returns-clause-obeys g c =
    let at = (goal.at.returns-clause-obeys g c).After-end_hold in
    obeys_allowed g.S.Store (g.D.Companion.needs c.args.companion) (g.D.Companion.brings c.args.companion) c.args.self.now
    c.judge_release.new.self c.end_hold.new.self
    (λ a. archive.release a c.args.name.now c.args.number) (Is g at) (λ a. archive.without_hold a c.args.name.now c.args.number) (judged g at)
    c.judge_release.ensures.still c.judge_release.ensures.behaves.falls c.in_ok-end_hold.ensures.ok c.end_hold.ensures.behaves.falls

pub returns-clause-brought : goal.returns-clause-brought
returns-clause-brought g c =
    let at = (goal.at.returns-clause-brought g c).After-end_hold in
    brought_allowed g.S.Store (g.D.Companion.needs c.args.companion) (g.D.Companion.brings c.args.companion) c.args.self.now
    c.judge_release.new.self c.end_hold.new.self
    (λ a. archive.release a c.args.name.now c.args.number) (Is g at) (λ a. archive.without_hold a c.args.name.now c.args.number) (judged g at)
    c.judge_release.ensures.still c.judge_release.ensures.behaves.falls c.in_ok-end_hold.ensures.brought c.end_hold.ensures.behaves.falls
    c.in_ok-judge_release.ensures.behaves.open

pub returns-clause-crash : goal.returns-clause-crash
returns-clause-crash g c = left g (goal.at.returns-clause-crash g c).After-end_hold

pub returns-in_err-end_hold-clause-crash : goal.returns-in_err-end_hold-clause-crash
returns-in_err-end_hold-clause-crash g c = left g (goal.at.returns-in_err-end_hold-clause-crash g c).After-end_hold
