use Rattle.std.proofs.lemmas.Result.{on_ok_weaker}
use Rattle.cli_changes.proofs.ReasonLaws.{logged_at}
use Rattle.cli_changes.proofs.time_of_day.put_clock.Goals as goal

pub returns : goal.returns
returns c =
    on_ok_weaker c.words.result
    (logged_at c.in-Ok.moment c.args.line.now c.put_time.new.text c.words.new.self c.in_ok-put_time.ensures) c.words.ensures
