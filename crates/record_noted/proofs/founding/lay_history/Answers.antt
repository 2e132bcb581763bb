use Rattle.std.proofs.Common.{◌≡◌, ◌∙◌, [], ℕ, List, map, sym, ap, subst, arith}
use Rattle.sqlite.specs.Held.{state}
use Rattle.record_tables.specs.Events.{Event, StoresEvents}
use Rattle.record_reads.specs.Events.{event_of}
use Rattle.record_archive.specs.Archive.{Archive}
use Rattle.record_noted.specs.Rows.{AreInOrder}
use Rattle.record_noted.specs.Histories.{rows_of}
use Rattle.record_noted.proofs.RowLemmas.{in_order}
use Rattle.record_noted.proofs.founding.lay_history.Goals as goal

pub returns-clause-ok : goal.returns-clause-ok
returns-clause-ok g c = λ (a : Archive) s.
    let ls : List (List ℕ) = map (λ l. l.items) c.args.lines.now in
    let all = map event_of c.as_slice.result.now in
    let same : all ≡ rows_of ls = ap (map event_of) c.as_slice.ensures.value ∙ c.in_ok-rows.ensures.rows in
    let order : AreInOrder all = subst AreInOrder (sym same) (in_order 1 [] ls) in
    let has : List Event → Type 0 = StoresEvents (state g.S.Store c.do_beside.new.self.conn).now in
    record {
      stands = (c.in_ok-do_beside.ensures.obeys (λ clean is_open. order) a s).0;
      next_is = omega (arith, c.in_ok-rows.ensures.ends.next_is);
      mark_is = c.in_ok-rows.ensures.ends.mark_is;
      lines = λ clean. subst has same (c.in_ok-do_beside.ensures.brought a s (λ clean is_open. order) clean).1;
    }
