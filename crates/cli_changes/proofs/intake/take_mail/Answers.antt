use Rattle.std.proofs.Common.{◌∙◌, subst, sym, ℕ}
use Rattle.std.proofs.lemmas.Result.{IfOk-weaker}
use Rattle.cli_changes.specs.Desks.{IsDeskOf}
use Rattle.cli_changes.specs.Intakes.{GoesOnAfter, IsBegun}
use Rattle.cli_changes.specs.declared.intake.Intake.{Intake}
use Rattle.cli_changes.specs.declared.rounds.Round.{Round}
use Rattle.cli_changes.specs.declared.rounds.Rounds.{Rounds}
use Rattle.cli_changes.proofs.IntakeLaws.{begun_is, goes_on_after, when_done}
use Rattle.cli_changes.proofs.intake.take_mail.Goals as goal

pub returns-clause-goes_on : goal.returns-clause-goes_on
returns-clause-goes_on g c =
    let rounds = c.args.rounds in
    let begun : IsBegun rounds.begun c.unwrap_or-begun.result =
    subst (λ (n : ℕ). IsBegun rounds.begun n) (sym c.unwrap_or-begun.ensures) (begun_is rounds.begun c.args.moment) in
    IfOk-weaker c.ended_by.result _ _ (λ (r : Round Intake Rounds) is.
    subst (GoesOnAfter rounds) (sym (is.0 ∙ c.into_round-ended.ensures.round))
    (goes_on_after rounds c.take_over-done.new.room c.unwrap_or-begun.result c.take_over-done.new.room.next begun)) c.ended_by.ensures

pub returns-clause-taken : goal.returns-clause-taken
returns-clause-taken g c =
    let room = c.new-room in
    let done = c.take_over-done in
    IfOk-weaker c.ended_by.result _ _ (λ (r : Round Intake Rounds) is. record {
      before = room.result;
      after = done.new.room;
      begun = c.unwrap_or-begun.result;
      job_is = room.ensures.job;
      mail_is = room.ensures.mail;
      place_is = room.ensures.place;
      begins = room.ensures.rounds;
      desk = subst (IsDeskOf g.A.Records.keeper c.args.job.filing c.args.archive) (sym room.ensures.desk) c.in-Ok.ensures.desk;
      takes = when_done done.result is.1 done.ensures;
      round_is = is.0 ∙ c.into_round-ended.ensures.round;
      given_back = c.into_round-ended.ensures.archive;
    }) c.ended_by.ensures
