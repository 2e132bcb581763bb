use Rattle.std.proofs.Common.{◌≡◌, ◌≢◌, map, Result, IfOk, IfErr, Ok, Err, sym, ap, ◌∙◌}
use Rattle.std.proofs.lemmas.Result.{IfOk-weaker, IfErr-weaker, MatchResult-from_both}
use Rattle.std.specs.List.{list_any}
use Rattle.class_plan.specs.declared.faults.PlanFault.{PlanFault}
use Rattle.class_plan.specs.declared.faults.PlanFault.TheVariants.{BadShape, NoMemory}
use Rattle.class_plan.specs.Plans.{Listing}
use Rattle.class_plan.specs.Entries.{entry_view}
use Rattle.class_plan.specs.Parts.{part_entry, parts_contents, is_closed_unfiled, plan_of_parts}
use Rattle.class_plan.proofs.Parted.{parts-closed, parts-open, parts-smallest, parts-made, closed-shown, parts-listable, is-memory}
use Rattle.class_plan.proofs.Reparted.{parts-same}
use Rattle.class_plan.proofs.plans.Plan.from_parts.Goals.{After-closes_unfiled, After-plan_from}
use Rattle.class_plan.proofs.plans.Plan.from_parts.Goals as goal

ok_same : (p q : Listing) (x : Result Listing PlanFault) → x ≡ Ok p → x ≡ Ok q → q ≡ p
ok_same p q x a b = cc

not_refused : (p : Listing) (f : PlanFault) (x : Result Listing PlanFault) → x ≡ Ok p → (f ≢ NoMemory → x ≡ Err f) → f ≡ NoMemory
not_refused p f x a b = is-memory f (λ ne. let k = b ne in (cc))

-- the classes that are listed are those that are given
shows : (c : After-closes_unfiled) → map entry_view c.in_ok-listed.listed.items ≡ map part_entry c.args.classes.items
shows c = c.in_ok-listed.ensures ∙ ap (map part_entry) c.as_slice.ensures.value

-- the test answers whether they close `unfiled`
tested : (c : After-closes_unfiled) → list_any is_closed_unfiled (map part_entry c.args.classes.items) ≡ c.closes_unfiled.result
tested c =
    ap (list_any is_closed_unfiled) (sym (shows c)) ∙ sym (closed-shown c.in_ok-listed.listed.items)
    ∙ ap (list_any (λ x. is_closed_unfiled (entry_view x))) (sym c.as_slice-2.ensures.value) ∙ sym c.closes_unfiled.ensures

-- ---- they close it

pub returns-then-closes_unfiled-clause-refused : goal.returns-then-closes_unfiled-clause-refused
returns-then-closes_unfiled-clause-refused c = λ _.
    let at = (goal.at.returns-then-closes_unfiled-clause-refused c).After-closes_unfiled in
    parts-closed (parts_contents c.args.root c.args.classes.items) (tested at ∙ c.if-closes_unfiled.true)

pub returns-then-closes_unfiled-clause-smallest : goal.returns-then-closes_unfiled-clause-smallest
returns-then-closes_unfiled-clause-smallest c = λ _.
    let at = (goal.at.returns-then-closes_unfiled-clause-smallest c).After-closes_unfiled in
    let f = parts_contents c.args.root c.args.classes.items in
    parts-smallest f BadShape (parts-closed f (tested at ∙ c.if-closes_unfiled.true))

pub returns-then-closes_unfiled-clause-same : goal.returns-then-closes_unfiled-clause-same
returns-then-closes_unfiled-clause-same c = λ p plan root rows.
    let at = (goal.at.returns-then-closes_unfiled-clause-same c).After-closes_unfiled in
    let f = parts_contents c.args.root c.args.classes.items in
    not_refused p BadShape (plan_of_parts f) (parts-same p c.args.root c.args.classes.items plan root rows)
    (λ _. parts-closed f (tested at ∙ c.if-closes_unfiled.true))

-- ---- they do not

pub plan_from-requires : goal.plan_from-requires
plan_from-requires c =
    let at = (goal.at.plan_from-requires c).After-closes_unfiled in
    rw (c.in_range_only.ensures, c.as_slice-3.ensures.value, shows at)
    (parts-listable c.args.root c.args.classes.items (tested at ∙ c.if-closes_unfiled.false))

-- the plan is that of the parts, and so is a refusal
made : (c : After-plan_from) → IfOk c.plan_from.result (λ p. plan_of_parts (parts_contents c.args.root c.args.classes.items) ≡ Ok p)
made c =
    let at = (goal.at.After-plan_from c).After-closes_unfiled in
    IfOk-weaker c.plan_from.result _ _
    (λ p e. parts-open (parts_contents c.args.root c.args.classes.items) (tested at ∙ c.if-closes_unfiled.false) ∙ e)
    (rw (c.in_range_only.ensures, c.as_slice-3.ensures.value, shows at) at c.plan_from.ensures.plan)

refused : (c : After-plan_from) → IfErr c.plan_from.result (λ f. f ≢ NoMemory →
    plan_of_parts (parts_contents c.args.root c.args.classes.items) ≡ Err f)
refused c =
    let at = (goal.at.After-plan_from c).After-closes_unfiled in
    IfErr-weaker c.plan_from.result _ _
    (λ f e ne. parts-open (parts_contents c.args.root c.args.classes.items) (tested at ∙ c.if-closes_unfiled.false) ∙ e ne)
    (rw (c.in_range_only.ensures, c.as_slice-3.ensures.value, shows at) at c.plan_from.ensures.refused)

pub returns-clause-plan : goal.returns-clause-plan
returns-clause-plan c = made (goal.at.returns-clause-plan c).After-plan_from

pub returns-clause-refused : goal.returns-clause-refused
returns-clause-refused c = refused (goal.at.returns-clause-refused c).After-plan_from

pub returns-clause-smallest : goal.returns-clause-smallest
returns-clause-smallest c =
    let at = (goal.at.returns-clause-smallest c).After-plan_from in
    let f = parts_contents c.args.root c.args.classes.items in
    MatchResult-from_both c.plan_from.result _ _ (IfOk-weaker c.plan_from.result _ _ (parts-made f) (made at))
    (IfErr-weaker c.plan_from.result _ _ (λ g e ne. parts-smallest f g (e ne)) (refused at))

pub returns-clause-same : goal.returns-clause-same
returns-clause-same c = λ p plan root rows.
    let at = (goal.at.returns-clause-same c).After-plan_from in
    let x = plan_of_parts (parts_contents c.args.root c.args.classes.items) in
    let whole = parts-same p c.args.root c.args.classes.items plan root rows in
    MatchResult-from_both c.plan_from.result _ _ (IfOk-weaker c.plan_from.result _ _ (λ q e. ok_same p q x whole e) (made at))
    (IfErr-weaker c.plan_from.result _ _ (λ g e. not_refused p g x whole e) (refused at))
