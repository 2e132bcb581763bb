use Rattle.std.proofs.Common.{subst}
use Rattle.std.proofs.lemmas.Result.{on_ok_weaker}
use Rattle.command_lines.specs.declared.archives.TypedNumber.{TypedNumber}
use Rattle.cli_tasks.specs.Commands.{Shows}
use Rattle.cli_tasks.proofs.subcommands.show_typed.Goals as goal

pub returns : goal.returns
returns g c =
    let asked = c.in_ok-record.ensures in
    let shows = λ (t : TypedNumber). Shows g.A.Kept.Store (g.A.Archives.is_at c.args.archives.now c.args.store.now) t.number in
    on_ok_weaker c.show.result (λ shown. (asked.none, subst shows asked.same shown)) c.show.ensures
