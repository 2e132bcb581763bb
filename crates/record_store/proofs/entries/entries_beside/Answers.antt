use Rattle.std.proofs.Common.{◌≡◌, ◌++◌, ◌∙◌, map, drop, sym, ap, subst, length, arith}
use Rattle.std.specs.List.{AllByRecursion}
use Rattle.std.proofs.lemmas.List.{length-map, take_rest}
use Rattle.record_tables.specs.CodeRows.{record_of, hold_entry_of}
use Rattle.record_choice.specs.Entries.{entry_view, name_list}
use Rattle.record_store.specs.Entries.{names_at_front, listed_beside, IsListableRecord}
use Rattle.record_store.proofs.Causes.{passed_own}
use Rattle.record_store.proofs.EntryLoops.{entry_next, still_low}
use Rattle.record_store.proofs.entries.entries_beside.Goals as goal

pub loop-row-init : goal.loop-row-init
loop-row-init c = record {
  entries =
      ap (λ l. map entry_view l ++ listed_beside c.args.plan.now (map hold_entry_of c.args.holds.now)
      (map record_of c.into_iter-row-iterator.result.rest.items)) c.new-entries.ensures.items
      ∙ ap (λ l. listed_beside c.args.plan.now (map hold_entry_of c.args.holds.now) (map record_of l))
      c.into_iter-row-iterator.ensures.into_iter_gives.0;
  low = omega arith;
  listable = subst (λ l. AllByRecursion IsListableRecord (map record_of l)) (sym c.into_iter-row-iterator.ensures.into_iter_gives.0);
}

pub loop-row-preserved : goal.loop-row-preserved
loop-row-preserved c =
    let was = c.loop-row.invariant in
    let p = c.args.plan.now in
    let holds = c.args.holds.now in
    let at = c.loop-row.at in
    let whole = listed_beside p (map hold_entry_of holds) (map record_of c.args.rows.items) in
    let names = name_list c.in_ok-names.names.items in
    let are : names ≡ names_at_front c.in-Some.row.number (map hold_entry_of (drop at holds)) =
    c.in_ok-names.ensures ∙ ap (λ l. names_at_front c.in-Some.row.number (map hold_entry_of l)) (take_rest holds at) in
    let count : c.len-at.result ≡ length names =
    c.len-at.ensures ∙ c.in_ok-names.names.ok.0 ∙ sym (length-map c.in_ok-names.names.items (λ n. n.items)) in
    record {
      entries =
          rw c.in_ok-push.ensures.items
          (entry_next hold_entry_of record_of entry_view p holds whole at c.len-at.result c.loop-row.entries.items c.in_ok-entry.entry c.in-Some.row
          c.next.new.self.rest.items names are count c.in_ok-entry.ensures.entry
          (ap (λ l. map entry_view c.loop-row.entries.items ++ listed_beside p (map hold_entry_of (drop at holds)) (map record_of l))
          (sym c.in-Some.ensures.steps.0) ∙ was.entries));
      listable = λ all.
          (subst (λ l. AllByRecursion IsListableRecord (map record_of l)) c.in-Some.ensures.steps.0 (was.listable all)).1;
      low = still_low hold_entry_of record_of entry_view p holds whole at c.len-at.result c.in-Some.row.number names was.low are count;
    }

pub returns-in_err-entry-clause-lost : goal.returns-in_err-entry-clause-lost
returns-in_err-entry-clause-lost c =
    passed_own c.from_residual-in_err-entry.result c.in_err-entry.field-0.0 _ c.from_residual-in_err-entry.ensures.1
    (λ all. c.in_err-entry.ensures.lost (subst (λ l.
    AllByRecursion IsListableRecord (map record_of l)) c.in-Some.ensures.steps.0
    (c.loop-row.invariant.listable all)).0)
