use Rattle.std.proofs.Common.{refl, sym, ◌∙◌}
use Rattle.record_archive.specs.Calls.{Quietly}
use Rattle.record_archive.specs.Archive as archive
use Rattle.record_archive.specs.Archive.{Archive}
use Rattle.record_noted.proofs.HistoryLemmas.{notes_done, notes_refused, notes_unmarked}
use Rattle.record_noted.proofs.store.NotedStore.note_add_class.Goals as goal

pub returns : goal.returns
returns g c =
    notes_done g.S.Store c.args.self.now c.args.line.now c.as_slice.result.now (c.as_slice.ensures.value ∙ c.in_ok-mark.ensures.mark) _ (tt {0})
    (λ a. archive.add_class a c.args.path.now) Quietly (λ ready clean. c.in_ok-add_class_with.ensures.obeys ready)
    c.in_ok-add_class_with.ensures.brought c.in_ok-add_class_with.ensures.behaves c.add_class_with.ensures.crash refl (sym c.as_slice.ensures.value)

pub returns-in_err-add_class_with : goal.returns-in_err-add_class_with
returns-in_err-add_class_with g c =
    notes_refused g.S.Store c.args.self.now c.args.line.now c.as_slice.result.now (c.as_slice.ensures.value ∙ c.in_ok-mark.ensures.mark)
    (record c.args.self.now { store = c.add_class_with.new.self }) _ c.in_err-add_class_with.field-0.0 (λ a. archive.add_class a c.args.path.now)
    Quietly c.from_residual-in_err-add_class_with.ensures.0 c.from_residual-in_err-add_class_with.ensures.1
    (λ (a : Archive) s. let done = c.in_err-add_class_with.ensures.obeys a s in (done.0, λ clean. done.1)) c.in_err-add_class_with.ensures.still
    c.add_class_with.ensures.behaves.falls c.add_class_with.ensures.crash refl refl

pub returns-in_err-mark : goal.returns-in_err-mark
returns-in_err-mark g c =
    notes_unmarked g.S.Store c.args.self.now _ c.in_err-mark.field-0.0 (λ a. archive.add_class a c.args.path.now)
    Quietly c.args.line.now c.from_residual.ensures.0 c.from_residual.ensures.1 c.in_err-mark.ensures.trouble
