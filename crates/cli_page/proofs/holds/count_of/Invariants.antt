use Rattle.std.proofs.Common.{◌≡◌, ◌≤◌, ◌+◌, ◌-◌, ◌^◌, min, length, drop}
use Rattle.cli_page.specs.KeptNumbers.{numbers_of, count_shown}
use Rattle.cli_page.proofs.holds.count_of.Given as goal

abbrev pub invariant-loop-stretch : goal.invariant-loop-stretch
invariant-loop-stretch l = record {
  same : min (l.count + length (numbers_of (drop l.stretch-index l.stretches))) (2 ^ 64 - 1) ≡ count_shown l.stretches;
  fits : l.count ≤ 2 ^ 64 - 1;
}
