use Rattle.std.proofs.Common.{◌≡◌, sym, ap, subst, ◌∙◌, true, None, Ok, refl}
use Rattle.class_plan.specs.Plans.{Listing, IsPlan, with_row, open_row}
use Rattle.class_plan.specs.Faults.{first_fault}
use Rattle.class_plan.specs.Changes.{speaks_against, with_class}
use Rattle.class_plan.specs.Fields.{rows, rows_in}
use Rattle.class_plan.proofs.Found.{rows-insert, row-same}
use Rattle.class_plan.proofs.Keeping.{added-plan, sorted-rows}
use Rattle.class_plan.proofs.Added.{judged-ok, free-path, free-parent, free-count}
use Rattle.class_plan.proofs.plans.Plan.add.Goals.{In_default, In_ok-insert}
use Rattle.class_plan.proofs.plans.Plan.add.Goals as goal

free : (c : In_default) → None ≡ first_fault (speaks_against
    (record { root = c.self.inside.root; rows = rows_in c.self.inside.classes }) c.args.path.now)
free c = sym c.in_default.is ∙ c.fault_at.ensures.first ∙ ap (λ x. first_fault (speaks_against x c.args.path.now)) (sym c.self.view_is)

made : (c : In_ok-insert) → rows_in c.insert.new.self ≡ with_row (open_row c.args.path.now) (rows_in c.self.inside.classes)
made c =
    ap rows c.in_ok-insert.ensures.entries ∙ rows-insert c.self.inside.classes.entries c.in_ok-key.key _
    ∙ ap (λ r. with_row r (rows_in c.self.inside.classes)) (row-same _ _ true None None c.in_ok-key.ensures.items refl)

is_plan : (c : In_ok-insert) → IsPlan (record { root = c.self.inside.root; rows = rows_in c.insert.new.self })
is_plan c =
    let p : Listing = record { root = c.self.inside.root; rows = rows_in c.self.inside.classes } in
    let q = c.args.path.now in
    let none = free (goal.at.In_ok-insert c).In_default in
    let order = rw (made c) at (sorted-rows c.insert.new.self.entries c.in_ok-insert.ensures.ordered) in
    rw (made c) (added-plan p q c.self.invariant (free-path p q none) (free-parent p q none) (free-count p q none) order)

pub invariant_of-self-2 : goal.invariant_of-self-2
invariant_of-self-2 c = is_plan (goal.at.invariant_of-self-2 c).In_ok-insert

pub returns-clause-ok : goal.returns-clause-ok
returns-clause-ok c =
    let p : Listing = record { root = c.self.inside.root; rows = rows_in c.self.inside.classes } in
    let at = goal.at.returns-clause-ok c in
    rw (← c.self.view_is) (judged-ok (speaks_against p c.args.path.now) (with_class p c.args.path.now) (free at.In_default)
    ∙ ap (λ rs. let x : Listing = record { root = p.root; rows = rs } in Ok x) (sym (made at.In_ok-insert)))

pub returns-clause-plans : goal.returns-clause-plans
returns-clause-plans c = (subst IsPlan c.self.view_is c.self.invariant, is_plan (goal.at.returns-clause-plans c).In_ok-insert)
