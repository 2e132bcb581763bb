use Rattle.std.proofs.Common.{refl, subst}
use Rattle.record_noted.specs.Openings.{Opens}
use Rattle.record_noted.specs.declared.opening.Opened.{Opened}
use Rattle.cli_tasks.proofs.HistoryLaws.{begun_where_none, was_there}
use Rattle.cli_tasks.proofs.volume_beginnings.BeginAfterMarkWork.work.Goals as goal

pub returns-in-Ok-Noted : goal.returns-in-Ok-Noted
returns-in-Ok-Noted g c =
    let opened = subst (λ (o : Opened g.row.S.Denot). Opens g.S.Store c.args.archive o) c.in-Ok-Noted.field-0-is c.in-Ok-Noted.ensures.ok in
    was_there g.S.Store c.args.archive c.in-Ok-Noted.noted c.ended.result.0 c.ended.result.1 opened c.ended.ensures.left c.ended.ensures.events

pub returns-in-Ok-Plain : goal.returns-in-Ok-Plain
returns-in-Ok-Plain g c =
    let opened = subst (λ (o : Opened g.row.S.Denot). Opens g.S.Store c.args.archive o) c.in-Ok-Plain.field-0-is c.in-Ok-Plain.ensures.ok in
    begun_where_none g.S.Store c.args.archive c.begin_after.result.0 c.begin_after.result.1 (refl, opened.1) c.begin_after.ensures
