use Rattle.std.proofs.Common.{◌≡◌, ◌++◌, map, drop}
use Rattle.record_tables.specs.CodeRows.{class_entry_of}
use Rattle.record_rows.specs.Rules.{answer_entry}
use Rattle.record_rows.proofs.rules.classes_from.Given as goal

abbrev pub invariant-loop-class : goal.invariant-loop-class
invariant-loop-class l = map class_entry_of l.rows.items ++ map answer_entry (drop l.class-index l.classes) ≡ map answer_entry l.classes
