use Rattle.std.proofs.Common.{◌<◌, map, sym, subst}
use Rattle.std.specs.List.{AllByRecursion}
use Rattle.record_tables.specs.Changes.{AreAscending}
use Rattle.record_tables.specs.Rows.{Due}
use Rattle.record_tables.specs.CodeRows.{due_of}
use Rattle.record_adoption.proofs.PlanDays.{rises_after}
use Rattle.record_adoption.proofs.plan_days.push_in_order.Goals as goal

pub returns-in_ok-push-clause-ascending : goal.returns-in_ok-push-clause-ascending
returns-in_ok-push-clause-ascending c =
    let below = subst (λ l. AllByRecursion (λ (d : Due). d.number < c.args.due.«record») (map due_of l))
    c.as_slice.ensures.value (c.is_after.ensures.below c.if-is_after.true) in
    subst (λ l. AreAscending (map due_of l)) (sym c.in_ok-push.ensures.items) (rises_after due_of c.args.dues.now.items c.args.due c.requires below)
