use Rattle.std.proofs.Common.{◌∙◌, ℕ, List, Vec, Global, map, refl, ap}
use Rattle.record_reads.specs.Events.{event_of}
use Rattle.record_history.specs.Chain.{chain_from}
use Rattle.record_noted.specs.Histories.{rows_from}
use Rattle.record_noted.proofs.AdditionLemmas.{lines_done, lines_refused, lines_unmarked}
use Rattle.record_noted.proofs.store.NotedStore.note_all.Goals as goal

pub returns : goal.returns
returns g c =
    let items : Vec ℕ Global → List ℕ = λ v. v.items in
    let lines = map items c.args.lines.now in
    let next = c.args.self.now.next in
    let before = c.as_slice.ensures.value in
    let ends = c.in_ok-rows.ensures.ends in
    lines_done g.S.Store c.args.self.now lines (map event_of c.as_slice-2.result.now)
    (ap (map event_of) c.as_slice-2.ensures.value ∙ c.in_ok-rows.ensures.rows ∙ ap (λ m. rows_from next m lines) before) _ (tt {0})
    c.in_ok-do_beside.ensures.obeys c.in_ok-do_beside.ensures.brought c.in_ok-do_beside.ensures.behaves c.do_beside.ensures.crash
    (record { next_is = ends.next_is; mark_is = ends.mark_is ∙ ap (λ m. chain_from m lines) before })

pub returns-in_err-do_beside : goal.returns-in_err-do_beside
returns-in_err-do_beside g c =
    let items : Vec ℕ Global → List ℕ = λ v. v.items in
    let lines = map items c.args.lines.now in
    let next = c.args.self.now.next in
    lines_refused g.S.Store c.args.self.now lines (map event_of c.as_slice-2.result.now)
    (ap (map event_of) c.as_slice-2.ensures.value ∙ c.in_ok-rows.ensures.rows
    ∙ ap (λ m. rows_from next m lines) c.as_slice.ensures.value)
    (record c.args.self.now { store = c.do_beside.new.self }) _ c.in_err-do_beside.field-0.0
    c.from_residual-in_err-do_beside.ensures.0 c.from_residual-in_err-do_beside.ensures.1
    c.in_err-do_beside.ensures.obeys c.in_err-do_beside.ensures.still c.do_beside.ensures.behaves.falls c.do_beside.ensures.crash refl refl

pub returns-in_err-rows : goal.returns-in_err-rows
returns-in_err-rows g c =
    lines_unmarked g.S.Store c.args.self.now _ c.in_err-rows.field-0.0 (map (λ l. l.items) c.args.lines.now) c.from_residual.ensures.0
    c.from_residual.ensures.1 c.in_err-rows.ensures.trouble
