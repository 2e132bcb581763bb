use Rattle.sqlite.specs.Held.{state}
use Rattle.record_tables.specs.Events.{new_event}
use Rattle.record_tables.proofs.EventLemmas.{note_accompanies}
use Rattle.record_tables.proofs.Loops.{on_ok}
use Rattle.record_tables.proofs.events.NoteCompanion.make.Goals as goal

pub returns-clause-ok : goal.returns-clause-ok
returns-clause-ok g c =
    on_ok c.insert_event.result (λ noted clean inside. note_accompanies (state g.S.Store c.args.tx.now.conn.now).now
    (state g.S.Store c.insert_event.new.tx.conn.now).now (new_event c.args.self.number c.args.self.line.now c.args.self.mark.now)
    (noted clean inside)) c.insert_event.ensures.ok
