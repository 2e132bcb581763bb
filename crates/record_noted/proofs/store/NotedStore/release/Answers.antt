use Rattle.record_archive.specs.Calls.{Quietly}
use Rattle.record_archive.specs.Archive as archive
use Rattle.record_archive.specs.Archive.{Archive}
use Rattle.record_history.specs.Events.{Event, Released}
use Rattle.record_noted.proofs.HistoryLemmas.{told}
use Rattle.record_noted.proofs.store.NotedStore.release.Goals as goal

pub returns-clause-told : goal.returns-clause-told
returns-clause-told g c = λ (e : Event) of.
    let law = c.commands_are_told.ensures in
    told g.S.Store c.args.self.now c.note_release.new.self c.note_release.result (λ a. archive.release a c.args.name.now c.args.number) Quietly
    c.args.line.now
    (λ (a : Archive). Released c.args.name.now c.args.number) e of.line_is (λ a b s made. of.deed_is)
    (law.lines (λ (a : Archive). Released c.args.name.now
    c.args.number) (λ a. archive.release a c.args.name.now c.args.number) (law.releases c.args.name.now c.args.number))
    c.note_release.ensures
