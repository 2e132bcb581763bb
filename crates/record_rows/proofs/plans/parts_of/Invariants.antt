use Rattle.std.proofs.Common.{◌≡◌, ◌≤◌, ◌++◌, map, drop, length}
use Rattle.class_plan.specs.Parts.{part_row}
use Rattle.record_tables.specs.CodeRows.{rule_of, class_entry_of}
use Rattle.record_rows.specs.Merge.{merge}
use Rattle.record_rows.proofs.plans.parts_of.Given as goal

abbrev pub invariant-loop-class : goal.invariant-loop-class
invariant-loop-class l = record {
  within : l.place ≤ length l.rules;
  kept : map part_row l.parts.items
      ++ merge (map rule_of (drop l.place l.rules)) (map class_entry_of (drop l.class-index l.classes))
      ≡ merge (map rule_of l.rules) (map class_entry_of l.classes);
}
