use Rattle.std.proofs.Common.{◌≡◌, refl, sym, ◌∙◌, map}
use Rattle.class_plan.specs.Calendar.{number_of_day}
use Rattle.record_archive.specs.Lines.{line_view}
use Rattle.record_archive.specs.Archive as archive
use Rattle.record_archive.specs.Archive.{Archive}
use Rattle.record_noted.proofs.HistoryLemmas.{notes_done, notes_refused, notes_unmarked}
use Rattle.record_noted.proofs.store.NotedStore.note_capture.Goals as goal

pub returns : goal.returns
returns g c =
    notes_done g.S.Store c.args.self.now c.args.line.now c.as_slice.result.now (c.as_slice.ensures.value ∙ c.in_ok-mark.ensures.mark) _
    c.in_ok-lines.lines
    (λ a. archive.capture a c.args.body.now (number_of_day c.args.day) c.args.paths.now) (λ a lines. map line_view lines.items ≡
    archive.capture_lines a (number_of_day c.args.day) c.args.paths.now) (λ ready clean. c.in_ok-lines.ensures.obeys ready)
    c.in_ok-lines.ensures.brought c.in_ok-lines.ensures.behaves c.capture_with.ensures.crash refl (sym c.as_slice.ensures.value)

pub returns-in_err-lines : goal.returns-in_err-lines
returns-in_err-lines g c =
    notes_refused g.S.Store c.args.self.now c.args.line.now c.as_slice.result.now (c.as_slice.ensures.value ∙ c.in_ok-mark.ensures.mark)
    (record c.args.self.now { store = c.capture_with.new.self }) _ c.in_err-lines.field-0.0
    (λ a. archive.capture a c.args.body.now (number_of_day c.args.day) c.args.paths.now)
    (λ a lines. map line_view lines.items ≡
    archive.capture_lines a (number_of_day c.args.day) c.args.paths.now)
    c.from_residual-in_err-lines.ensures.0 c.from_residual-in_err-lines.ensures.1
    (λ (a : Archive) s. let done = c.in_err-lines.ensures.obeys a s in (done.0, λ clean. done.1)) c.in_err-lines.ensures.still
    c.capture_with.ensures.behaves.falls c.capture_with.ensures.crash refl refl

pub returns-in_err-mark : goal.returns-in_err-mark
returns-in_err-mark g c =
    notes_unmarked g.S.Store c.args.self.now _ c.in_err-mark.field-0.0
    (λ a. archive.capture a c.args.body.now (number_of_day c.args.day) c.args.paths.now)
    (λ a lines. map line_view lines.items ≡
    archive.capture_lines a (number_of_day c.args.day) c.args.paths.now) c.args.line.now
    c.from_residual.ensures.0 c.from_residual.ensures.1 c.in_err-mark.ensures.trouble
