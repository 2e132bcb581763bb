use Rattle.cli_changes.proofs.ChangeLemmas.{change_is}
use Rattle.cli_changes.proofs.plan_changes.Changes.add.Goals as goal

pub returns : goal.returns
returns c =
    change_is c.args.old.now c.args.new.now c.args.today c.args.entry.now c.as_slice-path.result.now c.due_by.result
    c.is_same_day-moves.result c.counted-self.result c.add.new.self c.add-2.new.self c.args.self.now
    c.as_slice-path.ensures.value c.due_by.ensures.due c.is_same_day-moves.ensures c.counted-self.ensures c.add.ensures
    c.add-2.ensures
