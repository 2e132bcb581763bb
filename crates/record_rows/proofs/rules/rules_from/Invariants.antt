use Rattle.std.proofs.Common.{◌≡◌, [], ◌∷◌, ◌++◌, map, drop}
use Rattle.class_plan.specs.Parts.{answer_row}
use Rattle.record_tables.specs.CodeRows.{rule_of}
use Rattle.record_rows.specs.Rules.{rule_at, own_rules}
use Rattle.record_rows.proofs.rules.rules_from.Given as goal

abbrev pub invariant-loop-class : goal.invariant-loop-class
invariant-loop-class l = map rule_of l.rules.items ++ own_rules (map answer_row (drop l.class-index l.classes))
    ≡ rule_at [] l.fn.root ∷ own_rules (map answer_row l.classes)
