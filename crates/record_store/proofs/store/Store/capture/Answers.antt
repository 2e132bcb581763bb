use Rattle.std.proofs.Common.{arith, ap, ◌≡◌, length, map}
use Rattle.class_plan.specs.Calendar.{number_of_day}
use Rattle.record_archive.specs.Archive as archive
use Rattle.record_archive.specs.Archive.{Archive, capture_lines}
use Rattle.record_archive.specs.Lines.{line_view}
use Rattle.record_store.proofs.AllowedLemmas.{obeys_alone, leaves_alone}
use Rattle.record_store.proofs.CaptureStands.{obeys_nowhere}
use Rattle.record_store.proofs.CommandLemmas.{leaves_nothing}
use Rattle.record_store.proofs.store.Store.capture.Goals as goal

pub returns-clause-obeys : goal.returns-clause-obeys
returns-clause-obeys g c =
    obeys_alone g.S.Store c.args.self.now c.capture_with.new.self c.capture_with.result
    (λ a. archive.capture a c.args.body.now (number_of_day c.args.day) c.args.paths.now)
    (λ a lines. map line_view lines.items ≡ capture_lines a (number_of_day c.args.day) c.args.paths.now) c.capture_with.ensures.obeys

pub returns-clause-crash : goal.returns-clause-crash
returns-clause-crash g c =
    leaves_alone g.S.Store c.args.self.now c.capture_with.new.self
    (λ a. archive.capture a c.args.body.now (number_of_day c.args.day) c.args.paths.now) c.capture_with.ensures.crash

-- where there is no path

pub returns-then-is_empty-clause-obeys : goal.returns-then-is_empty-clause-obeys
returns-then-is_empty-clause-obeys g c = λ (a : Archive) s.
    let ps = c.args.paths.now in
    let long : length c.as_slice.result.now ≡ length ps = ap length c.as_slice.ensures in
    let none : length ps ≡ 0 = grind (arith, long) in
    obeys_nowhere g.S.Store c.ensure_open.new.self a c.args.body.now (number_of_day c.args.day) ps _ none
    (ap (map line_view) c.new.ensures.items) (c.ensure_open.ensures.stands a s)

pub returns-then-is_empty-clause-crash : goal.returns-then-is_empty-clause-crash
returns-then-is_empty-clause-crash g c = leaves_nothing g.S.Store c.args.self.now c.ensure_open.new.self _ c.ensure_open.ensures.crash

pub returns-in_err-ensure_open-clause-crash : goal.returns-in_err-ensure_open-clause-crash
returns-in_err-ensure_open-clause-crash g c = leaves_nothing g.S.Store c.args.self.now c.ensure_open.new.self _ c.ensure_open.ensures.crash
