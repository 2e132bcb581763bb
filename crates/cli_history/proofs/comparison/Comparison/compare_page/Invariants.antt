use Rattle.std.proofs.Common.{◌++◌, ℕ, List, map, take}
use Rattle.std.specs.List.{AllByRecursion}
use Rattle.sqlite.specs.State.{HasCleanDisk}
use Rattle.sqlite.specs.Held.{state}
use Rattle.record_archive.specs.Archive.{Archive}
use Rattle.record_choice.specs.Entries.{RecordEntry, entry_view}
use Rattle.record_noted.specs.Histories.{StandsWith}
use Rattle.cli_history.specs.Compared.{HasMet, IsThere}
use Rattle.cli_history.specs.Walks.{Looks}
use Rattle.cli_history.specs.declared.comparison.Comparison.{Comparison}
use Rattle.cli_history.proofs.comparison.Comparison.compare_page.Given as goal

abbrev pub invariant-loop-entry : goal.invariant-loop-entry
invariant-loop-entry g l = record {
  looks : Looks g.S.Store l.fn.noted l.noted;
  met : HasCleanDisk (state g.S.Store l.noted.store.conn) → (a : Archive) (ls : List (List ℕ)) → StandsWith g.S.Store l.fn.noted a ls
      → AllByRecursion (IsThere a) (map entry_view l.page) → (first : Comparison) (met : List RecordEntry) → HasMet a first l.fn.self met
      → HasMet a first l.self (met ++ map entry_view (take l.entry-index l.page));
}
