use Rattle.std.proofs.Common.{◌≡◌, ◌||◌, [], map, drop}
use Rattle.class_plan.specs.Fields.{rows_in}
use Rattle.class_plan.specs.Entries.{entry_view, rows_from}
use Rattle.class_plan.proofs.Twice.{again}
use Rattle.class_plan.proofs.plan_rules.insert_all.Given as goal

abbrev pub invariant-loop-class : goal.invariant-loop-class
invariant-loop-class l = record {
  rows : rows_from [] (map entry_view l.listed) ≡ rows_from (rows_in l.classes) (map entry_view (drop l.class-index l.listed));
  twice : again [] (map entry_view l.listed) ≡ (l.is_twice || again (rows_in l.classes) (map entry_view (drop l.class-index l.listed)));
}
