use Rattle.std.proofs.lemmas.Result.{IfOk-weaker}
use Rattle.cli_changes.specs.declared.intake.Intake.{Intake}
use Rattle.cli_changes.specs.declared.rounds.Round.{Round}
use Rattle.cli_changes.specs.declared.rounds.Rounds.{Rounds}
use Rattle.cli_changes.proofs.IntakeLaws.{both_ok}
use Rattle.cli_changes.proofs.intake.take_new.Goals as goal

pub returns-in-Ok : goal.returns-in-Ok
returns-in-Ok g c =
    IfOk-weaker c.take_timed.result.1 _ _ (λ (r : Round Intake Rounds) both. record {
      looked = c.timing_in.new.archive;
      reads = c.timing_in.ensures.reads;
      moment = c.in-Ok.ensures.judged.0;
      judged = c.in-Ok.ensures.judged.1;
      takes = both.1;
      goes_on = both.0;
    }) (both_ok c.take_timed.result.1 _ _ c.take_timed.ensures.goes_on c.take_timed.ensures.taken)
