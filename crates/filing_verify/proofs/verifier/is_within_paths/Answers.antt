use Rattle.std.proofs.Common.{sym}
use Rattle.filing_verify.proofs.Procedures.{no_procedures}
use Rattle.filing_verify.proofs.Budgets.{IsBetween, one_within, one_between}
use Rattle.filing_verify.proofs.verifier.is_within_paths.Goals as goal

pub returns-clause-yes : goal.returns-clause-yes
returns-clause-yes c = λ t.
    let p = c.args.image.now in
    let n = c.in_ok-places.places in
    let between : IsBetween n p.budget 65535 = rw (← c.budget.ensures) (c.is_between.ensures.0 t) in
    one_within p (no_procedures p.procedures (sym c.requires.version)) n c.in_ok-places.ensures.most between

pub returns-clause-no : goal.returns-clause-no
returns-clause-no c = λ f within.
    let p = c.args.image.now in
    let n = c.in_ok-places.places in
    let between : IsBetween n p.budget 65535 =
    one_between p (no_procedures p.procedures (sym c.requires.version)) n c.in_ok-places.ensures.attained within in
    let t = c.is_between.ensures.1 (rw c.budget.ensures between) in
    absurd (cc (t, f))
