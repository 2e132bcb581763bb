use Rattle.std.proofs.Common.{◌≡◌, [], map}
use Rattle.class_plan.specs.Fields.{rows}
use Rattle.class_plan.proofs.Opened.{collected}
use Rattle.class_plan.proofs.plans.Plan.open_paths.Given as goal

abbrev pub invariant-loop-path : goal.invariant-loop-path
invariant-loop-path l = record {
  can : (goal.iterator-loop-path).can_next l.path-iterator;
  finite : (goal.iterator-loop-path).is_finite l.path-iterator;
  kept : collected (map (λ v. v.items) l.paths.keys) (rows l.path-iterator) ≡ collected [] l.self.rows;
}
