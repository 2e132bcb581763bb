use Rattle.std.proofs.Common.{◌≡◌, ◌++◌, map, drop}
use Rattle.record_tables.specs.CodeRows.{class_entry_of}
use Rattle.record_rows.specs.Texts.{without_schedule}
use Rattle.record_rows.proofs.first.classes_without_texts.Given as goal

abbrev pub invariant-loop-class : goal.invariant-loop-class
invariant-loop-class l = map class_entry_of l.rows.items
    ++ map (λ c. without_schedule (class_entry_of c)) (drop l.class-index l.classes)
    ≡ map (λ c. without_schedule (class_entry_of c)) l.classes
