use Rattle.std.proofs.Common.{◌≡◌, ◌≤◌, ◌<◌, ◌^◌}
use Rattle.std.specs.List.{list_any}
use Rattle.record_archive.specs.Archive.{Archive}
use Rattle.record_choice.specs.Reads.{OnlyReads}
use Rattle.record_choice.specs.Entries.{records_from}
use Rattle.record_choice.specs.Disposals.{keeps}
use Rattle.record_choice.proofs.destruction.keeper_of.Given as goal

abbrev pub invariant-loop : goal.invariant-loop
invariant-loop g l = record {
  reads : OnlyReads g.R.Repository.clean g.R.Repository.stands l.fn.records l.records;
  at : g.R.Repository.clean l.records → (a : Archive) → g.R.Repository.stands l.fn.records a → (l.counter ≤ l.from) × (l.from < 2 ^ 32);
  none : g.R.Repository.clean l.records → (a : Archive) → g.R.Repository.stands l.fn.records a
      → list_any (keeps l.message l.number) (records_from a l.from) ≡ list_any (keeps l.message l.number) a.records;
}
