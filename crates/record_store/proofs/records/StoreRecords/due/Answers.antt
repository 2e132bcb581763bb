use Rattle.record_archive.specs.Calls.{unchanged}
use Rattle.record_store.proofs.CommandLemmas.{leaves_refused}
use Rattle.record_store.proofs.RecordsLemmas.{carried_out, read_out, not_open}
use Rattle.record_store.proofs.records.StoreRecords.due.Goals as goal

pub returns-in_err-ensure_open : goal.returns-in_err-ensure_open
returns-in_err-ensure_open g c =
    let opened = c.ensure_open.ensures in
    not_open g.S.Store c.args.self.now c.ensure_open.new.self _ _ _ c.in_err-ensure_open.field-0.0 c.from_residual.ensures.0
    c.from_residual.ensures.1 opened.stands opened.falls c.in_err-ensure_open.ensures.trouble opened.crash

pub returns : goal.returns
returns g c =
    let opened = c.ensure_open.ensures in
    carried_out g.S.Store c.args.self.now c.ensure_open.new.self c.due-lines.new.self _ _ opened.stands opened.falls
    c.in_ok-ensure_open.ensures.open opened.crash c.due-lines.ensures.falls (leaves_refused g.S.Store c.ensure_open.new.self
    c.due-lines.new.self unchanged c.due-lines.ensures.crash) c.is_idle-idle.ensures.left _
    (read_out g.S.Store c.ensure_open.new.self c.due-lines.new.self _ c.due-lines.result c.due-lines.ensures.tells) c.due-lines.ensures.open
