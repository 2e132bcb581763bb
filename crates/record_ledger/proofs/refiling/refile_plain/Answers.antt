use Rattle.record_store.proofs.RecordsLemmas.{carried_out, done_rows, not_open}
use Rattle.record_ledger.proofs.refiling.refile_plain.Goals as goal

pub returns-in_err-ensure_open : goal.returns-in_err-ensure_open
returns-in_err-ensure_open g c =
    let opened = c.ensure_open.ensures in
    not_open g.S.Store c.args.store.now c.ensure_open.new.self _ _ _ c.in_err-ensure_open.field-0.0 c.from_residual.ensures.0
    c.from_residual.ensures.1 opened.stands opened.falls c.in_err-ensure_open.ensures.trouble opened.crash

pub returns : goal.returns
returns g c =
    let opened = c.ensure_open.ensures in
    carried_out g.S.Store c.args.store.now c.ensure_open.new.self c.refile-done.new.self _ _ opened.stands opened.falls
    c.in_ok-ensure_open.ensures.open opened.crash c.refile-done.ensures.behaves.falls c.refile-done.ensures.crash c.is_idle-idle.ensures.left _
    (done_rows g.S.Store c.ensure_open.new.self c.refile-done.new.self _ _ c.refile-done.result c.refile-done.ensures.obeys) (λ a s clean on.
    c.refile-done.ensures.behaves.open clean)
