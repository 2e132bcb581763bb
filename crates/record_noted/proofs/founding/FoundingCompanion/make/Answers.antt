use Rattle.std.proofs.Common.{◌∙◌, map, arith}
use Rattle.sqlite.specs.Held.{state}
use Rattle.sqlite.specs.State.{HasCleanDisk}
use Rattle.record_tables.specs.Companions.{Accompanies}
use Rattle.record_tables.specs.Steps.{MakesIn}
use Rattle.record_tables.proofs.EventLemmas.{begins}
use Rattle.record_reads.specs.Events.{event_of}
use Rattle.record_noted.specs.Rows.{Awaits, NotesEvents}
use Rattle.record_noted.proofs.FoundingLemmas.{founded}
use Rattle.record_noted.proofs.RowLemmas.{goes_then, on_ok, stays_then}
use Rattle.record_noted.proofs.founding.FoundingCompanion.make.Goals as goal

pub returns-clause-ok : goal.returns-clause-ok
returns-clause-ok g c =
    let all = map event_of c.args.self.rows.now in
    let old = state g.S.Store c.args.tx.now.conn.now in
    let mid = state g.S.Store c.lay_events.new.tx.conn.now in
    let new = state g.S.Store c.insert_rows.new.tx.conn.now in
    on_ok c.insert_rows.result
    (λ (added : MakesIn g.S.Store c.lay_events.new.tx.conn.now c.insert_rows.new.tx.conn.now (Accompanies (Awaits all) (NotesEvents all))).
    λ clean inside.
    let back : HasCleanDisk mid = omega (arith, c.insert_rows.ensures.frame.survives.clean, clean) in
    founded old.now mid.now new.now all (begins old mid (c.in_ok-lay_events.ensures.ok back inside))
    (added clean ((c.in_ok-lay_events.ensures.goes_on back inside).mode ∙ inside)))
    c.insert_rows.ensures.ok

pub returns-clause-goes_on : goal.returns-clause-goes_on
returns-clause-goes_on g c =
    goes_then g.S.Store c.args.tx.now.conn c.lay_events.new.tx.conn c.insert_rows.new.tx.conn c.insert_rows.result
    c.in_ok-lay_events.ensures.goes_on (λ clean. omega (arith, c.insert_rows.ensures.frame.survives.clean, clean)) c.insert_rows.ensures.goes_on

pub returns-clause-frame : goal.returns-clause-frame
returns-clause-frame g c =
    stays_then g.S.Store c.args.tx.now.conn c.lay_events.new.tx.conn c.insert_rows.new.tx.conn c.insert_rows.result
    c.in_ok-lay_events.ensures.goes_on (record {
      same_reference = c.in_ok-lay_events.ensures.frame.same_reference;
      err = λ clean inside. tt;
      survives = c.in_ok-lay_events.ensures.frame.survives;
    })
    c.insert_rows.ensures.frame
