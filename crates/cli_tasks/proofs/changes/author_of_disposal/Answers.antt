use Rattle.cli_tasks.proofs.DoneLemmas.{told_both}
use Rattle.cli_tasks.proofs.changes.author_of_disposal.Goals as goal

pub returns-then-destroys : goal.returns-then-destroys
returns-then-destroys c = told_both c.args.told.now c.of.result c.of.ensures.name c.of.ensures.reason

pub returns-else-destroys : goal.returns-else-destroys
returns-else-destroys c = told_both c.args.told.now c.or_program.result c.or_program.ensures.name c.or_program.ensures.reason
