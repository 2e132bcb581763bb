use Rattle.std.proofs.Common.{◌≡◌, inr, Some, None, sym, subst, ◌∙◌}
use Rattle.class_paths.specs.Path.{ancestors}
use Rattle.class_plan.specs.Schedules.{IsInRange, IsInRangeIfAny}
use Rattle.class_plan.specs.Plans.{Listing, row_at, own_at, IsFromAbove}
use Rattle.class_plan.specs.Fields.{rows_in}
use Rattle.class_plan.proofs.Nearest.{from-above}
use Rattle.class_plan.proofs.Ranges.{own-found, own-range, first-range}
use Rattle.class_plan.proofs.plans.Plan.schedule_of.Goals as goal

pub returns-in-Some-clause-range : goal.returns-in-Some-clause-range
returns-in-Some-clause-range c =
    let p : Listing = record { root = c.self.inside.root; rows = rows_in c.self.inside.classes } in
    let own : Some c.in-Some.schedule ≡ own_at p.rows c.args.path.now = sym c.in-Some.is
    ∙ own-found (row_at c.args.path.now p.rows) _ c.in_ok-class.ensures.schedule in
    subst IsInRangeIfAny (sym own) (own-range p c.self.invariant c.args.path.now)

pub returns-in-None-clause-range : goal.returns-in-None-clause-range
returns-in-None-clause-range c =
    let p : Listing = record { root = c.self.inside.root; rows = rows_in c.self.inside.classes } in
    subst IsInRange (sym c.inherited_schedule.ensures) (first-range p c.self.invariant (ancestors c.args.path.now))

pub returns-in-None-clause-nearest : goal.returns-in-None-clause-nearest
returns-in-None-clause-nearest c =
    let p : Listing = record { root = c.self.inside.root; rows = rows_in c.self.inside.classes } in
    let own : None ≡ own_at p.rows c.args.path.now = sym c.in-None.is ∙ own-found (row_at c.args.path.now p.rows) _ c.in_ok-class.ensures.schedule in
    let above = subst (IsFromAbove p c.args.path.now) (sym c.inherited_schedule.ensures) (from-above p c.args.path.now) in
    rw (← c.self.view_is) (inr (sym own, above))
