use Rattle.std.proofs.Common.{◌≡◌}
use Rattle.std.specs.BTreeMap.{keys}
use Rattle.class_plan.specs.Fields.{rows_in}
use Rattle.class_plan.proofs.Kept.{kept_keys}
use Rattle.class_plan.proofs.changes.keeps_classes.Given as goal

abbrev pub invariant-loop-path : goal.invariant-loop-path
invariant-loop-path l = record {
  can : (goal.iterator-loop-path).can_next l.path-iterator;
  finite : (goal.iterator-loop-path).is_finite l.path-iterator;
  kept : kept_keys (rows_in l.new) (keys l.old) ≡ kept_keys (rows_in l.new) l.path-iterator;
}
