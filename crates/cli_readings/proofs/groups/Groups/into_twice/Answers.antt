use Rattle.std.proofs.Common.{subst}
use Rattle.std.specs.List.Sorted.{IsPermutation}
use Rattle.cli_readings.proofs.Grouped.{twice_are}
use Rattle.cli_readings.proofs.groups.Groups.into_twice.Goals as goal

pub returns : goal.returns
returns c = λ added under.
    twice_are c.args.self.groups added _ under c.in_ok-twice.ensures.ordered
    (subst (λ l. IsPermutation l c.sort_by_first.new.groups.items) c.in_ok-twice.ensures.groups c.sort_by_first.ensures.each)
    c.in_ok-sort_by_first.ensures.ordered
