use Rattle.std.proofs.Common.{◌≡◌, length}
use Rattle.class_paths.specs.Path.{ancestors_below}
use Rattle.class_plan.proofs.plans.has_parent.Given as goal

abbrev pub invariant-loop-end : goal.invariant-loop-end
invariant-loop-end l = ancestors_below l.path (length l.path) ≡ ancestors_below l.path l.end
