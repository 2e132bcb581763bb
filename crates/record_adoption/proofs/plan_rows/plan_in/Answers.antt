use Rattle.std.proofs.Common.{◌∙◌, sym, ap, map, true≢false}
use Rattle.class_plan.specs.Plans.{Listing, IsPlan}
use Rattle.record_tables.specs.CodeRows.{pair_of, rule_of, class_entry_of}
use Rattle.record_rows.specs.Rules.{HasRows}
use Rattle.record_adoption.proofs.AdoptPlan.{one_plan}
use Rattle.record_adoption.proofs.plan_rows.plan_in.Goals.{In-Some}
use Rattle.record_adoption.proofs.plan_rows.plan_in.Goals as goal

-- the plan that is found has these rows, and is valid
rows_of : (c : In-Some) → HasRows c.in-Some.plan (map rule_of c.args.rules.now) (map class_entry_of c.as_slice-2.result.now)
rows_of c = rw c.in-Some.is at c.in_ok-plan.ensures.plan

is_plan : (c : In-Some) → IsPlan c.in-Some.plan
is_plan c = rw c.in-Some.is at c.in_ok-plan.ensures.sound

pub returns-then-not-is_second-clause-none : goal.returns-then-not-is_second-clause-none
returns-then-not-is_second-clause-none c is = λ (q : Listing) plan tells.
    let second = c.is_second.ensures.1 (ap (map pair_of) c.as_slice.ensures.value ∙ tells.settings) in
    true≢false (sym second ∙ c.if-not-is_second.true)

pub returns-in-Some-clause-plan : goal.returns-in-Some-clause-plan
returns-in-Some-clause-plan c = λ (q : Listing) is tells.
    let at = goal.at.returns-in-Some-clause-plan c in
    let has = rows_of at.In-Some in
    one_plan c.in-Some.plan q (is_plan at.In-Some) (has.same_rules ∙ tells.rules)
    (has.same_classes ∙ ap (map class_entry_of) c.as_slice-2.ensures.value ∙ tells.classes)

pub returns-in-Some-clause-sound : goal.returns-in-Some-clause-sound
returns-in-Some-clause-sound c =
    let at = goal.at.returns-in-Some-clause-sound c in
    let has = rows_of at.In-Some in (
      is_plan at.In-Some,
      record {
        settings = sym (ap (map pair_of) c.as_slice.ensures.value) ∙ c.is_second.ensures.0 c.if-not-is_second.false;
        rules = sym has.same_rules;
        classes = sym (has.same_classes ∙ ap (map class_entry_of) c.as_slice-2.ensures.value);
      },
    )
