use Rattle.std.proofs.Common.{◌≡◌, ◌≤◌, ◌+◌, ◌-◌, length, drop}
use Rattle.std.specs.List.{prefix_len}
use Rattle.cli_page.specs.Columns.{is_empty_year}
use Rattle.cli_page.proofs.years.empty_before.Given as goal

abbrev pub decreases-loop-end : goal.decreases-loop-end
decreases-loop-end l = length l.years - l.end

-- what comes before the place has no record
abbrev pub invariant-loop-end : goal.invariant-loop-end
invariant-loop-end l = record {
  within : l.end ≤ length l.years;
  same : prefix_len is_empty_year l.years ≡ l.end + prefix_len is_empty_year (drop l.end l.years);
}
