use Rattle.std.proofs.Common.{◌≡◌, ◌≤◌, ◌+◌, ◌-◌, length, take}
use Rattle.std.specs.List.{suffix_len}
use Rattle.cli_page.specs.Columns.{is_empty_year}
use Rattle.cli_page.proofs.years.empty_after.Given as goal

abbrev pub decreases-loop-start : goal.decreases-loop-start
decreases-loop-start l = l.start

-- what comes after the place has no record
abbrev pub invariant-loop-start : goal.invariant-loop-start
invariant-loop-start l = record {
  within : l.start ≤ length l.years;
  same : suffix_len is_empty_year l.years ≡ (length l.years - l.start) + suffix_len is_empty_year (take l.start l.years);
}
