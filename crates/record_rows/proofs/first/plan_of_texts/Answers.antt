use Rattle.std.proofs.Common.{◌≡◌, map, Some, None, option_map, ap, sym, ◌∙◌}
use Rattle.class_plan.specs.Plans.{IsPlan}
use Rattle.record_tables.specs.CodeRows.{rule_of, class_entry_of}
use Rattle.record_rows.specs.Rules.{rules_of, HasRows}
use Rattle.record_rows.specs.Texts.{without_schedule, rules_of_texts}
use Rattle.record_rows.proofs.FirstRows.{texts-rules, texts-classes, rules-texts, listed-cleared}
use Rattle.record_rows.proofs.first.plan_of_texts.Goals as goal

pub returns-in_default-clause-none : goal.returns-in_default-clause-none
returns-in_default-clause-none c = λ p plan h.
    let none : rules_of_texts c.args.root.now (map class_entry_of c.args.classes.now) ≡ None = sym c.in_ok-rules.ensures
    ∙ ap (option_map (λ v. map rule_of v.items)) c.in_default.is in
    let k : None ≡ Some (rules_of p) = sym none ∙ texts-rules p c.args.root.now (map class_entry_of c.args.classes.now) plan h in
    cc

pub returns-in-Some-2-clause-plan : goal.returns-in-Some-2-clause-plan
returns-in-Some-2-clause-plan c =
    let some : rules_of_texts c.args.root.now (map class_entry_of c.args.classes.now)
    ≡ Some (map rule_of c.in-Some.rules.items) = sym c.in_ok-rules.ensures
    ∙ ap (option_map (λ v. map rule_of v.items)) c.in-Some.is in
    let classes : map class_entry_of c.as_slice-2.result.now
    ≡ map without_schedule (map class_entry_of c.args.classes.now) =
    ap (map class_entry_of) c.as_slice-2.ensures.value ∙ c.in_ok-rows.ensures ∙ listed-cleared c.args.classes.now in
    let has : HasRows c.in-Some-2.plan (map rule_of c.as_slice.result.now)
    (map class_entry_of c.as_slice-2.result.now) = rw c.in-Some-2.is at c.in_ok-plan.ensures.plan in
    let plan : IsPlan c.in-Some-2.plan = rw c.in-Some-2.is at c.in_ok-plan.ensures.sound in
    let rows : HasRows c.in-Some-2.plan (map rule_of c.in-Some.rules.items)
    (map without_schedule (map class_entry_of c.args.classes.now)) = record {
      same_rules = has.same_rules
          ∙ ap (map rule_of) c.as_slice.ensures.value;
      same_classes = has.same_classes ∙ classes;
    } in
    rules-texts c.in-Some-2.plan c.args.root.now (map class_entry_of c.args.classes.now) (map rule_of c.in-Some.rules.items) plan some rows

pub returns-clause-none : goal.returns-clause-none
returns-clause-none c = λ p plan h.
    let some : rules_of_texts c.args.root.now (map class_entry_of c.args.classes.now)
    ≡ Some (map rule_of c.in-Some.rules.items) = sym c.in_ok-rules.ensures
    ∙ ap (option_map (λ v. map rule_of v.items)) c.in-Some.is in
    let classes : map class_entry_of c.as_slice-2.result.now
    ≡ map without_schedule (map class_entry_of c.args.classes.now) =
    ap (map class_entry_of) c.as_slice-2.ensures.value ∙ c.in_ok-rows.ensures ∙ listed-cleared c.args.classes.now in
    let both : Some (rules_of p) ≡ Some (map rule_of c.in-Some.rules.items) =
    sym (texts-rules p c.args.root.now (map class_entry_of c.args.classes.now) plan h) ∙ some in
    let same : rules_of p ≡ map rule_of c.in-Some.rules.items = cc in
    let rows : HasRows p (map rule_of c.as_slice.result.now) (map class_entry_of c.as_slice-2.result.now) =
    record {
      same_rules = same ∙ ap (map rule_of) (sym c.as_slice.ensures.value);
      same_classes =
          sym (texts-classes p c.args.root.now (map class_entry_of c.args.classes.now) h) ∙ sym classes;
    } in
    let no = rw c.in-None.is at c.in_ok-plan.ensures.none in
    no p plan rows
