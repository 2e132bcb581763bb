use Rattle.sqlite.specs.Held.{state}
use Rattle.record_tables.proofs.EventLemmas.{begins}
use Rattle.record_tables.proofs.Loops.{on_ok}
use Rattle.record_tables.proofs.events.BeginningCompanion.make.Goals as goal

pub returns-clause-ok : goal.returns-clause-ok
returns-clause-ok g c =
    on_ok c.lay_events.result (λ laid clean inside. begins (state g.S.Store c.args.tx.now.conn.now)
    (state g.S.Store c.lay_events.new.tx.conn.now) (laid clean inside)) c.lay_events.ensures.ok
