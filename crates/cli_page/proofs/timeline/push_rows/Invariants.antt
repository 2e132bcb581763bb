use Rattle.std.proofs.Common.{◌≡◌, ◌++◌, drop, flat_map}
use Rattle.cli_page.specs.Timelines.{column_row}
use Rattle.cli_page.proofs.timeline.push_rows.Given as goal

abbrev pub invariant-loop-column : goal.invariant-loop-column
invariant-loop-column l = l.page ++ flat_map column_row (drop l.column-index l.columns) ≡ l.initial.page ++ flat_map column_row l.columns
