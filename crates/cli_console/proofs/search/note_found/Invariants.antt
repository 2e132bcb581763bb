use Rattle.std.proofs.Common.{◌≡◌, ◌++◌, drop, map}
use Rattle.record_choice.specs.Entries.{entry_view}
use Rattle.cli_console.specs.Finds.{singles_among}
use Rattle.cli_console.proofs.search.note_found.Given as goal

abbrev pub invariant-loop-entry : goal.invariant-loop-entry
invariant-loop-entry l =
    l.found.items ++ singles_among l.typed (map entry_view (drop l.entry-index l.entries))
    ≡ l.fn.found.items ++ singles_among l.typed (map entry_view l.entries)
