use Rattle.std.proofs.Common.{◌≡◌, map, drop}
use Rattle.std.specs.Cmp.Lexicographic.{pointwise}
use Rattle.record_tables.specs.CodeRows.{rule_of}
use Rattle.record_rows.specs.Rules.{same_rule}
use Rattle.record_rows.proofs.plans.are_same_rules.Given as goal

abbrev pub invariant-loop-i : goal.invariant-loop-i
invariant-loop-i l = pointwise same_rule (map rule_of l.rules) (map rule_of l.others)
    ≡ pointwise same_rule (map rule_of (drop l.i l.rules)) (map rule_of (drop l.i l.others))
