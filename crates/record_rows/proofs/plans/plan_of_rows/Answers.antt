use Rattle.std.proofs.Common.{◌≡◌, true, false, ◌∷◌, map, subst, sym, ◌∙◌}
use Rattle.record_tables.specs.CodeRows.{rule_of, class_entry_of}
use Rattle.record_rows.specs.Rules.{HasRows}
use Rattle.record_rows.proofs.Rebuilt.{same-root, same-parts}
use Rattle.record_rows.proofs.plans.plan_of_rows.Goals as goal

pub returns-else-branch-clause-none : goal.returns-else-branch-clause-none
returns-else-branch-clause-none c = λ p plan h.
    let cut : c.args.rules.now ≡ c.in-Some.root.now ∷ c.in-Some.own.now = c.in-Some.ensures.cases.0 in
    let root = c.schedule_in.ensures
    ∙ same-root p c.args.rules.now c.in-Some.root.now c.in-Some.own.now (map class_entry_of c.args.classes.now) cut
    h in
    let rows = c.in_ok-parts.ensures
    ∙ same-parts p c.args.rules.now c.in-Some.root.now c.in-Some.own.now (map class_entry_of c.args.classes.now)
    plan cut h in
    let same : c.in-Ok.plan ≡ p = c.in-Ok.ensures.same p plan root rows in
    let there : HasRows c.in-Ok.plan (map rule_of c.args.rules.now) (map class_entry_of c.args.classes.now) =
    subst (λ q. HasRows q (map rule_of c.args.rules.now) (map class_entry_of c.args.classes.now)) (sym same) h in
    let k : false ≡ true = sym c.if-branch.false ∙ c.in_ok-has_rows-in-Ok.ensures.1 there in
    cc

pub returns-in_default-fault : goal.returns-in_default-fault
returns-in_default-fault c = record {
  plan = tt;
  none = λ p plan h.
      let cut : c.args.rules.now ≡ c.in-Some.root.now ∷ c.in-Some.own.now = c.in-Some.ensures.cases.0 in
      let root = c.schedule_in.ensures
      ∙ same-root p c.args.rules.now c.in-Some.root.now c.in-Some.own.now (map class_entry_of c.args.classes.now)
      cut h in
      let rows = c.in_ok-parts.ensures
      ∙ same-parts p c.args.rules.now c.in-Some.root.now c.in-Some.own.now (map class_entry_of c.args.classes.now)
      plan cut h in
      c.in_default-fault.not-NoMemory (c.in-Err.ensures.same p plan root rows);
  sound = tt;
}
