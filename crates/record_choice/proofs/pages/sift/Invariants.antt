use Rattle.std.proofs.Common.{◌≡◌, ◌++◌, map, filter, None}
use Rattle.record_choice.specs.Entries.{entry_view}
use Rattle.record_choice.specs.Views.{choice_view, shows}
use Rattle.record_choice.specs.Walks.{last_of}
use Rattle.record_choice.proofs.pages.sift.Given as goal

abbrev pub invariant-loop-entry : goal.invariant-loop-entry
invariant-loop-entry l = record {
  chosen :
      map entry_view l.chosen.items ++ filter (shows (choice_view l.choice)) (map entry_view l.entry-iterator.rest.items)
      ≡ filter (shows (choice_view l.choice)) (map entry_view l.fn.entries.items);
  last : last_of l.last (map entry_view l.entry-iterator.rest.items) ≡ last_of None (map entry_view l.fn.entries.items);
}
