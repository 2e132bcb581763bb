use Rattle.std.proofs.Common.{sym}
use Rattle.filing_image.specs.Program.{firsts_of}
use Rattle.filing_verify.proofs.Procedures.{some_procedures, leads_inside}
use Rattle.filing_verify.proofs.Budgets.{IsBetween, two_within, two_between}
use Rattle.filing_verify.proofs.verifier.is_within_costs.Goals as goal

pub cost_of_start-requires-clause-inside : goal.cost_of_start-requires-clause-inside
cost_of_start-requires-clause-inside c = leads_inside c.args.image.now c.requires.in_range c.requires.inside

pub returns-clause-yes : goal.returns-clause-yes
returns-clause-yes c = λ t.
    let p = c.args.image.now in
    let n = c.in_ok-steps.steps in
    let between : IsBetween n p.budget 1000000 = rw (← c.budget.ensures) (c.is_between.ensures.0 t) in
    two_within p (firsts_of p.procedures) (some_procedures p.procedures (sym c.requires.version)) n
    c.in_ok-steps.ensures.there c.in_ok-steps.ensures.is between

pub returns-clause-no : goal.returns-clause-no
returns-clause-no c = λ f within.
    let p = c.args.image.now in
    let n = c.in_ok-steps.steps in
    let between : IsBetween n p.budget 1000000 =
    two_between p (firsts_of p.procedures) (some_procedures p.procedures (sym c.requires.version)) n
    c.in_ok-steps.ensures.is within in
    let t = c.is_between.ensures.1 (rw c.budget.ensures between) in
    absurd (cc (t, f))
