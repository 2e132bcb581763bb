use Rattle.std.proofs.Common.{◌≡◌, map}
use Rattle.jiff.specs.Words.{epoch_day}
use Rattle.record_archive.specs.Archive.{due_list_on}
use Rattle.record_archive.specs.Lines.{line_view}
use Rattle.record_ledger.proofs.CarryLemmas.{found_open, not_open, read_out}
use Rattle.record_ledger.proofs.noted.due.Goals as goal

pub returns-in_err-ensure_open : goal.returns-in_err-ensure_open
returns-in_err-ensure_open g c =
    let opened = c.ensure_open.ensures in
    not_open g.S.Store c.args.noted.now c.ensure_open.new.self _ _ opened.stands opened.falls opened.crash _ c.in_err-ensure_open.field-0.0
    c.from_residual.ensures.0 c.from_residual.ensures.1 c.in_err-ensure_open.ensures.trouble

pub returns : goal.returns
returns g c =
    let opened = c.ensure_open.ensures in
    let found = found_open g.S.Store c.args.noted.now c.ensure_open.new.self opened.stands opened.falls
    c.in_ok-ensure_open.ensures.open opened.crash in
    read_out g.S.Store c.args.noted.now c.ensure_open.new.self c.due-lines.new.self found
    (λ a lines. map line_view lines.items ≡ due_list_on a (epoch_day c.args.day)) c.is_idle-idle.ensures.left c.due-lines.result
    c.due-lines.ensures.reads c.due-lines.ensures.open
