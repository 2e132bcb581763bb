use Rattle.std.proofs.Common.{◌∙◌, ap, refl, subst, true}
use Rattle.record_noted.specs.Openings.{Opens}
use Rattle.record_noted.specs.declared.opening.Opened.{Opened}
use Rattle.record_store.specs.declared.store.Store.{Store}
use Rattle.cli_tasks.proofs.HistoryLaws.{answered, has_begun, sound_there}
use Rattle.cli_tasks.proofs.volume_soundness.JudgeBeginningWork.work.Goals as goal

pub returns-in-Ok-Noted : goal.returns-in-Ok-Noted
returns-in-Ok-Noted g c =
    let noted = c.in-Ok-Noted.noted in
    let after = c.judge_noted.result.0 in
    let judged = c.judge_noted.result.1 in
    let opened = subst (λ (o : Opened g.row.S.Denot). Opens g.S.Store c.args.archive o) c.in-Ok-Noted.field-0-is c.in-Ok-Noted.ensures.ok in
    has_begun g.S.Store c.args.archive after judged (answered g.S.Store c.args.archive noted after true judged c.judge_noted.ensures)
    (sound_there g.S.Store c.args.archive noted after true judged opened c.judge_noted.ensures)

pub returns-in-Ok-Plain : goal.returns-in-Ok-Plain
returns-in-Ok-Plain g c =
    let opened = subst (λ (o : Opened g.row.S.Denot). Opens g.S.Store c.args.archive o) c.in-Ok-Plain.field-0-is c.in-Ok-Plain.ensures.ok in
    record { none = (refl, opened.1); left = c.into_connection.ensures ∙ ap (λ (s : Store g.row.S.Denot). s.conn) opened.0 }
