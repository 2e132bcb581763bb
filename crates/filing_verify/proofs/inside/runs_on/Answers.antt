use Rattle.std.proofs.Common.{◌≡◌, ap, ◌∙◌, subst, arith, true, Some}
use Rattle.std.proofs.lemmas.Option.{slice_get-get_or}
use Rattle.filing_image.specs.declared.instruction.Operation.{Operation}
use Rattle.filing_verify.specs.Flow.{goes_on}
use Rattle.filing_verify.specs.Passes.{IsMarked}
use Rattle.filing_verify.proofs.inside.runs_on.Goals as goal

pub returns-then-not-marks-place-clause-on : goal.returns-then-not-marks-place-clause-on
returns-then-not-marks-place-clause-on c = λ _ r _.
    let place = c.args.place in
    let unmarked = slice_get-get_or c.args.marks.now place _ (omega (arith, c.requires.marks.0, c.requires.within))
    ∙ ap Some c.if-not-marks-place.true in
    let m = (c.requires.marks.1 place c.requires.within).1 r in
    cc

pub returns-then-not-goes_on-clause-on : goal.returns-then-not-goes_on-clause-on
returns-then-not-goes_on-clause-on c = λ _ _ on.
    let same : on.operation ≡ c.operation_at.result = cc (on.here, c.operation_at.ensures) in
    let g : goes_on c.operation_at.result ≡ true = subst (λ (o : Operation). goes_on o ≡ true) same on.goes in
    absurd (cc (g, c.goes_on.ensures, c.if-not-goes_on.true))

pub returns-clause-off : goal.returns-clause-off
returns-clause-off c = λ t.
    let place = c.args.place in
    let marked : IsMarked c.args.marks.now place =
    slice_get-get_or c.args.marks.now place _ (omega (arith, c.requires.marks.0, c.requires.within))
    ∙ ap Some c.if-not-marks-place.false in
    let goes : goes_on c.operation_at.result ≡ true = cc (c.goes_on.ensures, c.if-not-goes_on.false) in (
      (c.requires.marks.1 place c.requires.within).0 marked,
      record {
        operation = c.operation_at.result;
        here = c.operation_at.ensures;
        goes = goes;
        out =
            c.is_last.ensures.yes t;
      },
    )

pub returns-clause-on : goal.returns-clause-on
returns-clause-on c = λ f _ on. on.out (c.is_last.ensures.no f)
