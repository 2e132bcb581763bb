use Rattle.std.proofs.Common.{refl, sym, ◌∙◌}
use Rattle.record_archive.specs.Calls.{Quietly}
use Rattle.record_archive.specs.Archive as archive
use Rattle.record_noted.proofs.HistoryLemmas.{notes_done, notes_refused, notes_unmarked}
use Rattle.record_noted.proofs.store.NotedStore.note_revise.Goals as goal

pub returns : goal.returns
returns g c =
    notes_done g.S.Store c.args.self.now c.args.line.now c.as_slice.result.now (c.as_slice.ensures.value ∙ c.in_ok-mark.ensures.mark) _ (tt {0})
    (λ a. archive.revise a c.args.plan) Quietly (λ ready clean. c.in_ok-revise_with.ensures.obeys ready clean)
    c.in_ok-revise_with.ensures.brought c.in_ok-revise_with.ensures.behaves c.revise_with.ensures.crash refl (sym c.as_slice.ensures.value)

pub returns-in_err-revise_with : goal.returns-in_err-revise_with
returns-in_err-revise_with g c =
    notes_refused g.S.Store c.args.self.now c.args.line.now c.as_slice.result.now (c.as_slice.ensures.value ∙ c.in_ok-mark.ensures.mark)
    (record c.args.self.now { store = c.revise_with.new.self }) _ c.in_err-revise_with.field-0.0 (λ a. archive.revise a c.args.plan)
    Quietly c.from_residual-in_err-revise_with.ensures.0 c.from_residual-in_err-revise_with.ensures.1
    c.in_err-revise_with.ensures.obeys c.in_err-revise_with.ensures.still
    c.revise_with.ensures.behaves.falls c.revise_with.ensures.crash refl refl

pub returns-in_err-mark : goal.returns-in_err-mark
returns-in_err-mark g c =
    notes_unmarked g.S.Store c.args.self.now _ c.in_err-mark.field-0.0 (λ a. archive.revise a c.args.plan)
    Quietly c.args.line.now c.from_residual.ensures.0 c.from_residual.ensures.1 c.in_err-mark.ensures.trouble
