use Rattle.std.proofs.Common.{Vec, subst, sym, ℕ}
use Rattle.std.proofs.lemmas.Result.{IfOk-weaker}
use Rattle.std.specs.declared.alloc.Global.{Global}
use Rattle.sqlite.specs.Held.{Held}
use Rattle.cli_readings.specs.Chosen.{ShowsOf}
use Rattle.cli_tasks.proofs.subcommands.ReadMessageWork.work.Goals as goal

pub returns : goal.returns
returns g c =
    let shows = λ (after : Held g.row.S.Denot) (v : Vec ℕ Global). ShowsOf g.S.Store c.args.self.0.number v.items c.args.archive after in
    IfOk-weaker c.message_of_record-message.result (shows c.message_of_record-message.new.archive.conn) (shows c.into_connection.result)
    (λ v told. subst (λ (after : Held g.row.S.Denot). shows after v) (sym c.into_connection.ensures) told) c.message_of_record-message.ensures.told
