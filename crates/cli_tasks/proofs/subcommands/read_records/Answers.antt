use Rattle.cli_tasks.proofs.DoneLemmas.{read_as}
use Rattle.cli_tasks.proofs.subcommands.read_records.Goals as goal

pub returns : goal.returns
returns g c =
    let asked = c.in_ok-questions.ensures in
    read_as g.A.Kept.Store (g.A.Archives.is_at c.args.archives.now c.args.store.now) c.args.reading.now c.args.choice c.in_ok-questions.questions
    c.lend.result (record { test = asked.test; fields = asked.fields }) c.lend.ensures
