use Rattle.std.proofs.Common.{◌≡◌, ◌++◌, drop, flat_map, map}
use Rattle.cli_page.specs.Indexes.{index_row, row_view}
use Rattle.cli_page.proofs.index.push_rows.Given as goal

abbrev pub invariant-loop-row : goal.invariant-loop-row
invariant-loop-row l =
    l.page ++ flat_map index_row (map row_view (drop l.row-index l.rows)) ≡ l.initial.page ++ flat_map index_row (map row_view l.rows)
