use Rattle.record_store.proofs.RecordsLemmas.{carried_out, done_so, not_open}
use Rattle.record_store.proofs.records.StoreRecords.capture.Goals as goal

pub returns-in_err-ensure_open : goal.returns-in_err-ensure_open
returns-in_err-ensure_open g c =
    let opened = c.ensure_open.ensures in
    not_open g.S.Store c.args.self.now c.ensure_open.new.self _ _ _ c.in_err-ensure_open.field-0.0 c.from_residual.ensures.0
    c.from_residual.ensures.1 opened.stands opened.falls c.in_err-ensure_open.ensures.trouble opened.crash

pub returns : goal.returns
returns g c =
    let opened = c.ensure_open.ensures in
    carried_out g.S.Store c.args.self.now c.ensure_open.new.self c.capture-lines.new.self _ _ opened.stands opened.falls
    c.in_ok-ensure_open.ensures.open opened.crash c.capture-lines.ensures.behaves.falls c.capture-lines.ensures.crash c.is_idle-idle.ensures.left _
    (done_so g.S.Store c.ensure_open.new.self c.capture-lines.new.self _ _ c.capture-lines.result c.capture-lines.ensures.obeys)
    (λ a s clean on. c.capture-lines.ensures.behaves.open clean)
