use Rattle.std.proofs.Common.{◌≡◌, ◌==◌, ◌++◌, map}
use Rattle.std.specs.List.{AllByRecursion}
use Rattle.record_reads.specs.DueRecords.{due_record_of}
use Rattle.record_adoption.specs.Counts.{count_at}
use Rattle.record_archive.specs.Lines.{line_view}
use Rattle.record_store.specs.Dues.{IsDatable}
use Rattle.record_store.proofs.DueLemmas.{lines_told}
use Rattle.record_store.proofs.store.Store.unheld_lines.Given as goal

abbrev pub invariant-loop-record : goal.invariant-loop-record
invariant-loop-record g l = record {
  lines :
      map line_view l.lines.items ++ lines_told (λ d. count_at l.fn.self.held d.number == 0) due_record_of l.record-iterator.rest.items
      ≡ lines_told (λ d. count_at l.fn.self.held d.number == 0) due_record_of l.fn.due.items;
  datable : AllByRecursion IsDatable (map due_record_of l.fn.due.items) → AllByRecursion IsDatable (map due_record_of l.record-iterator.rest.items);
}
