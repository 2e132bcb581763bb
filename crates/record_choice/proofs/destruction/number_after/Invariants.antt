use Rattle.std.proofs.Common.{◌≡◌, map, drop, None}
use Rattle.record_choice.specs.Entries.{entry_view}
use Rattle.record_choice.specs.Walks.{last_of}
use Rattle.record_choice.proofs.destruction.number_after.Given as goal

abbrev pub invariant-loop-entry : goal.invariant-loop-entry
invariant-loop-entry l =
    last_of l.last (map entry_view (drop l.entry-index l.entries)) ≡ last_of None (map entry_view l.entries)
