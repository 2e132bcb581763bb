use Rattle.record_archive.specs.Calls.{Quietly}
use Rattle.record_archive.specs.Archive as archive
use Rattle.record_archive.specs.Archive.{Archive}
use Rattle.record_history.specs.Events.{Event, ClassAdded}
use Rattle.record_noted.proofs.HistoryLemmas.{told}
use Rattle.record_noted.proofs.store.NotedStore.add_class.Goals as goal

pub returns-clause-told : goal.returns-clause-told
returns-clause-told g c = λ (e : Event) of.
    let law = c.commands_are_told.ensures in
    told g.S.Store c.args.self.now c.note_add_class.new.self c.note_add_class.result (λ a. archive.add_class a c.args.path.now) Quietly
    c.args.line.now
    (λ (a : Archive). ClassAdded c.args.path.now) e of.line_is (λ a b s made. of.deed_is)
    (law.lines (λ (a : Archive). ClassAdded c.args.path.now) (λ a.
    archive.add_class a c.args.path.now) (law.additions c.args.path.now))
    c.note_add_class.ensures
