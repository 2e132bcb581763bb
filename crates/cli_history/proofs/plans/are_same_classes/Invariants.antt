use Rattle.std.proofs.Common.{◌≡◌, map, take}
use Rattle.class_plan.specs.Parts.{answer_row}
use Rattle.cli_history.proofs.plans.are_same_classes.Given as goal

abbrev pub invariant-loop-place : goal.invariant-loop-place
invariant-loop-place l = map answer_row (take l.place l.ones) ≡ map answer_row (take l.place l.others)
