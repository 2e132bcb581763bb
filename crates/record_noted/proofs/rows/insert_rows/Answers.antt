use Rattle.std.proofs.Common.{◌≡◌, ◌∙◌, ◌++◌, List, map, take, get_or, sym, ap, ap₂, subst, arith}
use Rattle.std.proofs.lemmas.List.{get_or-map, length-map, take_all}
use Rattle.sqlite.specs.Effect.{Database}
use Rattle.sqlite.specs.Held.{state}
use Rattle.record_tables.specs.Companions.{Accompanies}
use Rattle.record_tables.specs.Events.{Event, Notes, StoresEvents, new_event}
use Rattle.record_reads.specs.Events.{event_of}
use Rattle.record_noted.specs.Rows.{AreAfter, Awaits}
use Rattle.record_noted.proofs.RowLemmas.{adds_none, adds_next}
use Rattle.record_noted.proofs.rows.insert_rows.Goals as goal

pub loop-row-init : goal.loop-row-init
loop-row-init g c = adds_none g.S.Store c.args.tx.now.conn (map event_of c.args.rows.now)

pub loop-row-preserved : goal.loop-row-preserved
loop-row-preserved g c =
    let rows = c.args.rows.now in
    let all = map event_of rows in
    let k = c.loop-row.row-index in
    let r = c.row-item.result in
    let same : new_event r.number c.as_slice.result.now c.as_slice-in-loop-row.result.now ≡ get_or all k (event_of r) =
    ap₂ (new_event r.number) c.as_slice.ensures.value c.as_slice-in-loop-row.ensures.value ∙ ap event_of c.row-item.is
    ∙ sym (get_or-map event_of rows k r (event_of r) c.loop-row-test.true) in
    let now = (state g.S.Store c.loop-row.tx.conn.now).now in
    let next = (state g.S.Store c.insert_event.new.tx.conn.now).now in
    adds_next g.S.Store c.args.tx.now.conn c.loop-row.tx.conn c.insert_event.new.tx.conn all k (event_of r)
    (omega (arith, length-map rows event_of, c.loop-row-test.true)) c.loop-row.invariant
    (λ clean inside. subst (λ (e : Event). Notes now next e) same (c.in_ok-insert_event.ensures.ok clean inside))
    c.in_ok-insert_event.ensures.goes_on (record {
      same_reference = c.in_ok-insert_event.ensures.frame.same_reference;
      err = λ clean inside. tt;
      survives = c.in_ok-insert_event.ensures.frame.survives;
    })

pub returns-clause-ok : goal.returns-clause-ok
returns-clause-ok g c = λ clean inside.
    let all = map event_of c.args.rows.now in
    let k = c.loop-row.row-index in
    let old = (state g.S.Store c.args.tx.now.conn.now).now in
    let new = (state g.S.Store c.loop-row.tx.conn.now).now in
    let whole : take k all ≡ all = take_all k all (omega (arith, length-map c.args.rows.now event_of, c.loop-row-test.false)) in
    let P : List Event → Type 0 = λ fs. Accompanies (Awaits all) (λ (was db : Database). (es : List Event) → StoresEvents was es → AreAfter es all
    → StoresEvents db (es ++ fs)) old new in
    subst P whole (c.loop-row.invariant.ok clean inside)
