use Rattle.std.proofs.Common.{◌≡◌, ◌++◌, drop, flat_map}
use Rattle.cli_page.specs.DueLists.{row}
use Rattle.cli_page.proofs.due_list.push_rows.Given as goal

abbrev pub invariant-loop-item : goal.invariant-loop-item
invariant-loop-item l = l.page ++ flat_map (row l.titles) (drop l.item-index l.items) ≡ l.initial.page ++ flat_map (row l.titles) l.items
