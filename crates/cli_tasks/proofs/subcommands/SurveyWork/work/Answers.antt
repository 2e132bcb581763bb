use Rattle.std.proofs.Common.{subst, sym}
use Rattle.std.proofs.lemmas.Result.{on_ok_weaker}
use Rattle.sqlite.specs.Held.{Held}
use Rattle.cli_tasks.specs.Commands.{Surveys}
use Rattle.cli_tasks.proofs.subcommands.SurveyWork.work.Goals as goal

pub returns : goal.returns
returns g c =
    let reads = λ (after : Held g.row.S.Denot). Surveys g.S.Store c.args.archive after c.args.self in
    on_ok_weaker c.perform-done.result (λ read. subst reads (sym c.into_connection.ensures) read) c.perform-done.ensures
