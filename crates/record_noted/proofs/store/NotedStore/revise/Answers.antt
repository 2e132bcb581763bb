use Rattle.record_archive.specs.Calls.{Quietly}
use Rattle.record_archive.specs.Archive as archive
use Rattle.record_archive.specs.Archive.{Archive}
use Rattle.record_history.specs.Events.{Event, PlanReplaced}
use Rattle.record_noted.proofs.HistoryLemmas.{told}
use Rattle.record_noted.proofs.store.NotedStore.revise.Goals as goal

pub returns-clause-told : goal.returns-clause-told
returns-clause-told g c = λ (e : Event) of.
    let law = c.commands_are_told.ensures in
    told g.S.Store c.args.self.now c.note_revise.new.self c.note_revise.result (λ a. archive.revise a c.args.plan) Quietly c.args.line.now
    (λ (a : Archive). PlanReplaced c.args.plan) e of.line_is (λ a b s made. of.deed_is) (law.lines (λ (a : Archive). PlanReplaced c.args.plan) (λ a.
    archive.revise a c.args.plan) (law.plans c.args.plan))
    c.note_revise.ensures
