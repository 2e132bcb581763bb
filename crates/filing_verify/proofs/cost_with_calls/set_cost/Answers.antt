use Rattle.std.proofs.Common.{ap, ◌∙◌, arith, Some}
use Rattle.std.proofs.lemmas.Option.{slice_get-get_or}
use Rattle.filing_verify.specs.Passes.{IsMarked}
use Rattle.filing_verify.proofs.Spending.{set_cost, unreached}
use Rattle.filing_verify.proofs.cost_with_calls.set_cost.Goals as goal

pub returns-then-marks-place : goal.returns-then-marks-place
returns-then-marks-place c =
    let i = c.args.place in
    let marked : IsMarked c.args.marks.now i =
    slice_get-get_or c.args.marks.now i _ (omega (arith, c.requires.marks.0, c.requires.within)) ∙ ap Some c.if-marks-place.true in
    rw c.cost.ensures (set_cost c.requires.forward c.requires.inside c.requires.so_far c.operation_at.ensures
    ((c.requires.marks.1 i c.requires.within).0 marked))

pub returns-else-marks-place : goal.returns-else-marks-place
returns-else-marks-place c =
    let i = c.args.place in
    let unmarked = slice_get-get_or c.args.marks.now i _ (omega (arith, c.requires.marks.0, c.requires.within)) ∙ ap Some c.if-marks-place.false in
    unreached c.requires.forward c.requires.inside c.requires.so_far (λ r. let m = (c.requires.marks.1 i c.requires.within).1 r in cc)
