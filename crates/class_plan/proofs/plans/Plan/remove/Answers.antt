use Rattle.std.proofs.Common.{◌≡◌, ◌∙◌, sym, ap, subst, not, filter}
use Rattle.std.specs.Str.{bytes_eq}
use Rattle.class_plan.specs.Plans.{Listing, IsPlan}
use Rattle.class_plan.specs.Changes.{without_class}
use Rattle.class_plan.specs.Fields.{rows, rows_in}
use Rattle.class_plan.proofs.Removed.{rows-remove}
use Rattle.class_plan.proofs.plans.Plan.remove.Goals as goal

pub invariant_of-self : goal.invariant_of-self
invariant_of-self c =
    let path = c.args.path.now in
    let p : Listing = record { root = c.self.inside.root; rows = rows_in c.self.inside.classes } in
    let made : rows_in c.remove-class.new.self ≡ filter (λ r. not (bytes_eq path r.path)) p.rows =
    ap rows c.remove-class.ensures.entries
    ∙ rows-remove path c.self.inside.classes.entries c.self.invariant.in_order in
    let left : IsPlan (without_class p path) = subst (λ l. IsPlan (without_class l path)) (sym c.self.view_is) c.requires in
    subst (λ rs. let l : Listing = record { root = p.root; rows = rs } in IsPlan l) (sym made) left

pub returns : goal.returns
returns c =
    let path = c.args.path.now in
    let p : Listing = record { root = c.self.inside.root; rows = rows_in c.self.inside.classes } in
    let made : rows_in c.remove-class.new.self ≡ filter (λ r. not (bytes_eq path r.path)) p.rows =
    ap rows c.remove-class.ensures.entries
    ∙ rows-remove path c.self.inside.classes.entries c.self.invariant.in_order in
    rw (← c.self.view_is) (ap (λ rs. let l : Listing = record { root = p.root; rows = rs } in l) made)
