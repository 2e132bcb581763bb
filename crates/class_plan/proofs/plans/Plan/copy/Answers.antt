use Rattle.std.proofs.Common.{ap}
use Rattle.class_plan.specs.Plans.{Listing}
use Rattle.class_plan.proofs.Cloned.{same_items, rows-clone}
use Rattle.class_plan.proofs.plans.Plan.copy.Goals as goal

pub invariant_of-result : goal.invariant_of-result
invariant_of-result c =
    let same = rows-clone _ (λ e f h. rw (same_items e.0.items f.0.items h.0.0, h.1)) c.self.inside.classes.entries
    c.in_ok-clone.field-0.entries c.in_ok-clone.ensures.cases in
    rw same c.self.invariant

pub returns : goal.returns
returns c =
    rw (← c.self.view_is) (ap (λ rs. let p : Listing = record { root = c.self.inside.root; rows = rs } in
    p) (rows-clone _ (λ e f h. rw (same_items e.0.items f.0.items h.0.0, h.1)) c.self.inside.classes.entries
    c.in_ok-clone.field-0.entries c.in_ok-clone.ensures.cases))
