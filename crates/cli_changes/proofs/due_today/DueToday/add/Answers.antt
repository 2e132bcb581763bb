use Rattle.std.proofs.Common.{◌∙◌, not, rules}
use Rattle.cli_changes.proofs.ChangeLemmas.{record_is}
use Rattle.cli_changes.proofs.due_today.DueToday.add.Goals as goal

pub returns : goal.returns
returns c =
    c.count.ensures
    ∙ record_is c.args.plan.now c.args.path.now c.args.today c.args.entry.now c.due_by.result c.schedule_of.result
    (not c.is_empty.result) c.args.self.now c.due_by.ensures.due c.schedule_of.ensures.schedule (search rules)
