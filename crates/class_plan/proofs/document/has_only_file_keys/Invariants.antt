use Rattle.std.proofs.Common.{◌≡◌}
use Rattle.std.specs.BTreeMap.{keys}
use Rattle.class_plan.specs.Document.{is_file_key}
use Rattle.class_plan.proofs.Steps.{are_known}
use Rattle.class_plan.proofs.document.has_only_file_keys.Given as goal

abbrev pub invariant-loop-key : goal.invariant-loop-key
invariant-loop-key l = record {
  can : (goal.iterator-loop-key).can_next l.key-iterator;
  finite : (goal.iterator-loop-key).is_finite l.key-iterator;
  known : are_known is_file_key (keys l.table) ≡ are_known is_file_key l.key-iterator;
}
