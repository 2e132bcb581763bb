use Rattle.record_archive.specs.Calls.{Quietly}
use Rattle.record_archive.specs.Refiling as archive
use Rattle.record_archive.specs.Archive.{Archive}
use Rattle.record_history.specs.Events.{Event, Refiled}
use Rattle.record_noted.proofs.HistoryLemmas.{told}
use Rattle.record_noted.proofs.store.NotedStore.refile.Goals as goal

pub returns-clause-told : goal.returns-clause-told
returns-clause-told g c = λ (e : Event) of.
    let law = c.commands_are_told.ensures in
    told g.S.Store c.args.self.now c.note_refile.new.self c.note_refile.result
    (λ a. archive.refile a c.args.number c.args.path.now) Quietly c.args.line.now
    (λ (a : Archive). Refiled c.args.number c.args.path.now) e of.line_is (λ a b s made. of.deed_is)
    (law.lines (λ (a : Archive). Refiled c.args.number c.args.path.now) (λ a. archive.refile a c.args.number c.args.path.now)
    (law.refilings c.args.number c.args.path.now))
    c.note_refile.ensures
