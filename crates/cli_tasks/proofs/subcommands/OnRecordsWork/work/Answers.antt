use Rattle.std.proofs.Common.{subst, sym}
use Rattle.std.proofs.lemmas.Result.{on_ok_weaker}
use Rattle.sqlite.specs.Held.{Held}
use Rattle.cli_tasks.specs.Commands.{ReadsBy}
use Rattle.cli_tasks.proofs.subcommands.OnRecordsWork.work.Goals as goal

pub returns : goal.returns
returns g c =
    let it = c.args.self in
    let reads = λ (after : Held g.row.S.Denot). ReadsBy g.S.Store c.args.archive after it.reading.now it.choice it.questions in
    on_ok_weaker c.perform-done.result (λ read. subst reads (sym c.into_connection.ensures) read) c.perform-done.ensures
