use Rattle.std.proofs.Common.{◌≡◌, ◌++◌, flat_map}
use Rattle.cli_page.specs.KeptNumbers.{entry_row, AreInOrder}
use Rattle.cli_page.proofs.holds.Holds.rows.Given as goal

abbrev pub invariant-loop-name : goal.invariant-loop-name
invariant-loop-name l = record {
  can : (goal.iterator-loop-name).can_next l.name-iterator;
  finite : (goal.iterator-loop-name).is_finite l.name-iterator;
  rows : l.page ++ flat_map entry_row l.name-iterator ≡ l.initial.page ++ flat_map entry_row l.self.holds.entries;
  order : AreInOrder l.self.holds.entries;
}
