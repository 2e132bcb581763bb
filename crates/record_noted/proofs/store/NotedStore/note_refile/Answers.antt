use Rattle.std.proofs.Common.{refl, sym, ◌∙◌}
use Rattle.record_archive.specs.Calls.{Quietly}
use Rattle.record_archive.specs.Refiling as archive
use Rattle.record_noted.proofs.HistoryLemmas.{notes_done, notes_refused, notes_unmarked}
use Rattle.record_noted.proofs.store.NotedStore.note_refile.Goals as goal

pub returns : goal.returns
returns g c =
    notes_done g.S.Store c.args.self.now c.args.line.now c.as_slice.result.now (c.as_slice.ensures.value ∙ c.in_ok-mark.ensures.mark) _ (tt {0})
    (λ a. archive.refile a c.args.number c.args.path.now) Quietly c.in_ok-refile_with.ensures.obeys
    c.in_ok-refile_with.ensures.brought c.in_ok-refile_with.ensures.behaves c.refile_with.ensures.crash refl (sym c.as_slice.ensures.value)

pub returns-in_err-refile_with : goal.returns-in_err-refile_with
returns-in_err-refile_with g c =
    notes_refused g.S.Store c.args.self.now c.args.line.now c.as_slice.result.now (c.as_slice.ensures.value ∙ c.in_ok-mark.ensures.mark)
    (record c.args.self.now { store = c.refile_with.new.self }) _ c.in_err-refile_with.field-0.0 (λ a. archive.refile a c.args.number c.args.path.now)
    Quietly c.from_residual-in_err-refile_with.ensures.0 c.from_residual-in_err-refile_with.ensures.1
    c.in_err-refile_with.ensures.obeys c.in_err-refile_with.ensures.still
    c.refile_with.ensures.behaves.falls c.refile_with.ensures.crash refl refl

pub returns-in_err-mark : goal.returns-in_err-mark
returns-in_err-mark g c =
    notes_unmarked g.S.Store c.args.self.now _ c.in_err-mark.field-0.0 (λ a. archive.refile a c.args.number c.args.path.now)
    Quietly c.args.line.now c.from_residual.ensures.0 c.from_residual.ensures.1 c.in_err-mark.ensures.trouble
