use Rattle.std.proofs.Common.{◌≤◌, length, map}
use Rattle.std.specs.List.{AllByRecursion}
use Rattle.record_tables.specs.CodeRows.{record_of, hold_entry_of}
use Rattle.record_choice.specs.Entries.{entry_view}
use Rattle.record_store.specs.Entries.{listed_beside, IsListableRecord}
use Rattle.record_store.proofs.EntryLoops.{EntriesSoFar}
use Rattle.record_store.proofs.entries.entries_beside.Given as goal

abbrev pub invariant-loop-row : goal.invariant-loop-row
invariant-loop-row l = record {
  entries : EntriesSoFar hold_entry_of record_of entry_view l.plan l.holds
      (listed_beside l.plan (map hold_entry_of l.holds) (map record_of l.fn.rows.items)) l.at l.entries.items l.row-iterator.rest.items;
  low : l.at ≤ length l.holds;
  listable : AllByRecursion IsListableRecord (map record_of l.fn.rows.items)
      → AllByRecursion IsListableRecord (map record_of l.row-iterator.rest.items);
}
