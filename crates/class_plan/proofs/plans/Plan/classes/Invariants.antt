use Rattle.std.proofs.Common.{◌≡◌, ◌++◌, map}
use Rattle.class_plan.specs.Fields.{rows}
use Rattle.class_plan.specs.Parts.{answer_row}
use Rattle.class_plan.proofs.plans.Plan.classes.Given as goal

abbrev pub invariant-loop-path : goal.invariant-loop-path
invariant-loop-path l = record {
  can : (goal.iterator-loop-path).can_next l.path-iterator;
  finite : (goal.iterator-loop-path).is_finite l.path-iterator;
  kept : map answer_row l.told.items ++ rows l.path-iterator ≡ l.self.rows;
}
