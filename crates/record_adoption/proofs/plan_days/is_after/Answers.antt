use Rattle.std.proofs.Common.{◌<◌, ◌≤◌, arith}
use borrow.Author.Tests.{ltb-true}
use Rattle.std.proofs.lemmas.Bool.{ltb-false}
use Rattle.record_tables.specs.CodeRows.{due_of}
use Rattle.record_adoption.proofs.PlanDays.{after_last, after_none, last_below}
use Rattle.record_adoption.proofs.plan_days.is_after.Goals as goal

pub returns-in-None-clause-below : goal.returns-in-None-clause-below
returns-in-None-clause-below c = λ _. after_none due_of c.args.dues.now c.args.number c.in-None.ensures.value

pub returns-in-Some-clause-below : goal.returns-in-Some-clause-below
returns-in-Some-clause-below c = λ h.
    let low : c.in-Some.last.now.«record» < c.args.number = omega (arith, ltb-true) in
    after_last due_of c.args.dues.now c.in-Some.last.now c.args.number c.requires c.in-Some.ensures.value low

pub returns-in-Some-clause-otherwise : goal.returns-in-Some-clause-otherwise
returns-in-Some-clause-otherwise c = λ h all.
    let high : c.args.number ≤ c.in-Some.last.now.«record» = ltb-false _ _ h in
    let low = last_below due_of c.args.dues.now c.in-Some.last.now c.args.number all c.in-Some.ensures.value in
    omega (arith, high, low)
