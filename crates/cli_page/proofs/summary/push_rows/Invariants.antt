use Rattle.std.proofs.Common.{◌≡◌, ◌++◌, drop, flat_map}
use Rattle.cli_page.specs.Reports.{class_row}
use Rattle.cli_page.proofs.summary.push_rows.Given as goal

abbrev pub invariant-loop-row : goal.invariant-loop-row
invariant-loop-row l =
    l.page ++ flat_map (class_row l.plan l.titles) (drop l.row-index l.rows) ≡ l.initial.page ++ flat_map (class_row l.plan l.titles) l.rows
