use Rattle.std.proofs.Common.{◌≡◌, map, find, drop}
use Rattle.record_choice.specs.Entries.{entry_view}
use Rattle.record_choice.specs.Disposals.{keeps_entry}
use Rattle.record_choice.proofs.destruction.keeper_in.Given as goal

abbrev pub invariant-loop-entry : goal.invariant-loop-entry
invariant-loop-entry l =
    find (keeps_entry l.message l.number) (map entry_view (drop l.entry-index l.entries))
    ≡ find (keeps_entry l.message l.number) (map entry_view l.entries)
