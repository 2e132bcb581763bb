use Rattle.std.proofs.Common.{◌≡◌, ◌++◌, drop, flat_map}
use Rattle.cli_page.specs.KeptNumbers.{more_stretch}
use Rattle.cli_page.proofs.holds.push_more_stretches.Given as goal

abbrev pub invariant-loop-stretch : goal.invariant-loop-stretch
invariant-loop-stretch l =
    l.page ++ flat_map more_stretch (drop l.stretch-index l.stretches) ≡ l.initial.page ++ flat_map more_stretch l.stretches
