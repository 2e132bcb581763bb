use Rattle.std.proofs.Common.{◌≡◌, map, drop}
use Rattle.std.specs.Cmp.Lexicographic.{pointwise}
use Rattle.record_tables.specs.CodeRows.{class_entry_of}
use Rattle.record_rows.specs.Rules.{same_class, answer_entry}
use Rattle.record_rows.proofs.plans.are_class_rows.Given as goal

abbrev pub invariant-loop-i : goal.invariant-loop-i
invariant-loop-i l = pointwise same_class (map answer_entry l.classes) (map class_entry_of l.rows)
    ≡ pointwise same_class (map answer_entry (drop l.i l.classes)) (map class_entry_of (drop l.i l.rows))
