use Rattle.std.proofs.Common.{◌≡◌, length}
use Rattle.class_paths.specs.Path.{ancestors_below}
use Rattle.class_plan.specs.Plans.{first_own}
use Rattle.class_plan.specs.Fields.{rows_in}
use Rattle.class_plan.proofs.readers.inherited_schedule.Given as goal

abbrev pub invariant-loop-end : goal.invariant-loop-end
invariant-loop-end l =
    first_own (record { root = l.root; rows = rows_in l.classes }) (ancestors_below l.path (length l.path))
    ≡ first_own (record { root = l.root; rows = rows_in l.classes }) (ancestors_below l.path l.end)
