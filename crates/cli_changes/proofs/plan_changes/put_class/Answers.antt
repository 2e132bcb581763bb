use Rattle.std.proofs.lemmas.Result.{on_ok_weaker}
use Rattle.cli_changes.proofs.ReasonLaws.{behind}
use Rattle.cli_changes.proofs.plan_changes.put_class.Goals as goal

pub returns : goal.returns
returns c =
    let text = c.args.text.now in
    on_ok_weaker c.end_line.result (behind text _ _ c.put_compared-2.new.text c.end_line.new.self
    (behind text _ _ c.put_compared.new.text c.put_compared-2.new.text
    (behind text _ _ c.put_class_moved.new.text c.put_compared.new.text c.in_ok-put_class_moved.ensures c.in_ok-put_compared.ensures)
    c.in_ok-put_compared-2.ensures)) c.end_line.ensures
