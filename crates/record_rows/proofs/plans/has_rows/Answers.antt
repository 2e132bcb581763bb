use Rattle.std.proofs.Common.{◌≡◌, ◌&&◌, map, ap, sym, ◌∙◌}
use Rattle.std.specs.Cmp.Lexicographic.{pointwise}
use Rattle.record_tables.specs.CodeRows.{rule_of, class_entry_of}
use Rattle.record_rows.specs.Rules.{same_rule, same_class, answer_entry}
use Rattle.record_rows.proofs.Rebuilt.{and-true, and-false, rows-decide}
use Rattle.record_rows.proofs.plans.has_rows.Goals as goal
use Rattle.record_rows.proofs.plans.has_rows.Goals.{then-are_same_rules, else-are_same_rules}

pub returns : goal.returns
returns c =
    let first : c.are_same_rules.result
    ≡ pointwise same_rule (map rule_of c.in_ok-own.own.items) (map rule_of c.args.rules.now) =
    c.are_same_rules.ensures
    ∙ ap (λ z. pointwise same_rule (map rule_of z) (map rule_of c.args.rules.now)) c.as_slice.ensures.value in
    let is : c.if-are_same_rules.result
    ≡ (pointwise same_rule (map rule_of c.in_ok-own.own.items) (map rule_of c.args.rules.now)
    && pointwise same_class (map answer_entry c.in_ok-told.told.items) (map class_entry_of c.args.classes.now)) =
    elim c.if-are_same_rules.branch [
      | then-are_same_rules w ↦
          w.result-is ∙ w.are_class_rows.ensures
          ∙ ap (λ z. pointwise same_class (map answer_entry z) (map class_entry_of c.args.classes.now))
          w.as_slice-then-are_same_rules.ensures.value
          ∙ sym (and-true (pointwise same_rule (map rule_of c.in_ok-own.own.items) (map rule_of c.args.rules.now))
          (pointwise same_class (map answer_entry c.in_ok-told.told.items) (map class_entry_of c.args.classes.now))
          (sym first ∙ w.if-are_same_rules.true))
      | else-are_same_rules w ↦ w.result-is ∙ w.if-are_same_rules.false
          ∙ sym (and-false (pointwise same_rule (map rule_of c.in_ok-own.own.items) (map rule_of c.args.rules.now))
          (pointwise same_class (map answer_entry c.in_ok-told.told.items) (map class_entry_of c.args.classes.now))
          (sym first ∙ w.if-are_same_rules.false))
    ] in
    rows-decide c.args.plan.now c.in_ok-own.own.items c.in_ok-told.told.items c.args.rules.now c.args.classes.now
    c.if-are_same_rules.result c.in_ok-own.ensures c.in_ok-told.ensures is
