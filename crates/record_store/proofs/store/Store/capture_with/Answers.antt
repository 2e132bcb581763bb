use Rattle.std.proofs.Common.{arith, subst, ap, ◌≡◌, ◌∙◌, ◌≤◌, ◌+◌, ◌^◌, length, map}
use Rattle.class_plan.specs.Calendar.{number_of_day}
use Rattle.record_archive.specs.Archive as archive
use Rattle.record_archive.specs.Archive.{Archive, after_capture, next_number}
use Rattle.record_store.specs.Captures.{lines_of}
use Rattle.record_archive.specs.Lines.{line_view}
use Rattle.record_store.specs.Companions.{LeavesBoth, LeavesBothWhere}
use Rattle.record_store.specs.Stores.{StandsFor}
use Rattle.record_store.proofs.CaptureStands.{obeys_captured, leaves_command}
use Rattle.record_store.proofs.store.Store.capture_with.Given.{Over}
use Rattle.record_store.proofs.store.Store.capture_with.Goals.{After-place_capture}
use Rattle.record_store.proofs.store.Store.capture_with.Goals as goal

pub returns-clause-obeys : goal.returns-clause-obeys
returns-clause-obeys g c = λ ready (a : Archive) s.
    let ps = c.args.paths.now in
    let day = number_of_day c.args.day in
    let long : length c.as_slice.result.now ≡ length ps = ap length c.as_slice.ensures in
    let room : next_number a + length ps ≤ 2 ^ 32 = omega (arith, long, s.next) in
    obeys_captured g.S.Store c.place_capture.new.self a c.args.body.now day ps (map line_view c.in_ok-lines.lines.items) room
    (subst (λ k. StandsFor g.S.Store c.place_capture.new.self (after_capture a c.args.body.now k ps))
    c.capture_number-number.ensures.number (c.in_ok-place_capture.ensures.ok ready a s tt))
    (c.in_ok-lines.ensures.lines ∙ (λ i. lines_of (s.plan i) (s.next i) day ps))

pub returns-clause-brought : goal.returns-clause-brought
returns-clause-brought g c = λ (a : Archive) s ready clean. c.in_ok-place_capture.ensures.brought a s ready tt clean

left : (g : Over) (c : After-place_capture g) → LeavesBoth g.S.Store (g.D.Companion.needs c.args.companion) (g.D.Companion.brings c.args.companion)
    c.args.self.now c.place_capture.new.self (λ a. archive.capture a c.args.body.now (number_of_day c.args.day) c.args.paths.now)
left g c =
    let ps = c.args.paths.now in
    let long : length c.as_slice.result.now ≡ length ps = ap length c.as_slice.ensures in
    leaves_command g.S.Store (g.D.Companion.needs c.args.companion) (g.D.Companion.brings c.args.companion) c.args.self.now
    c.place_capture.new.self c.args.body.now (number_of_day c.args.day) ps (omega (arith, long))
    (subst (λ k. LeavesBothWhere g.S.Store (g.D.Companion.needs c.args.companion) (g.D.Companion.brings c.args.companion)
    c.args.self.now c.place_capture.new.self (λ a. Unit {0}) (λ a. after_capture a c.args.body.now k ps))
    c.capture_number-number.ensures.number c.place_capture.ensures.crash)

pub returns-clause-crash : goal.returns-clause-crash
returns-clause-crash g c = left g (goal.at.returns-clause-crash g c).After-place_capture

pub returns-in_err-place_capture-clause-crash : goal.returns-in_err-place_capture-clause-crash
returns-in_err-place_capture-clause-crash g c = left g (goal.at.returns-in_err-place_capture-clause-crash g c).After-place_capture
