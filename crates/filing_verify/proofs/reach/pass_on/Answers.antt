use Rattle.std.proofs.Common.{◌≡◌, ℕ, ◌<◌, ap, ◌∙◌, arith, Some}
use Rattle.std.proofs.lemmas.Option.{slice_get-get_or}
use Rattle.filing_verify.specs.Passes.{IsMarked}
use Rattle.filing_verify.proofs.Marking.{passed_on}
use Rattle.filing_verify.proofs.reach.pass_on.Goals as goal
use Rattle.filing_verify.proofs.reach.pass_on.Goals.{in-Some+else-to-place, in_default}

pub returns-clause-passed : goal.returns-clause-passed
returns-clause-passed c = λ _.
    let place = c.args.place in
    let marked : IsMarked c.args.marks.now place =
    slice_get-get_or c.args.marks.now place _ (omega (arith, c.requires.so_far.long, c.requires.within))
    ∙ ap Some c.if-not-marks-place.false in
    let ahead : (q : ℕ) → c.target.result ≡ Some q → place < q = λ q to. elim c.match-target.branch [
      | in-Some+else-to-place w ↦ let e : w.in-Some.to ≡ q = cc (w.in-Some.is, to) in rw (← e) w.if-to-place.false
      | in_default w ↦ absurd (cc (w.in_default.is, to))
    ] in
    rw c.mark_successors.ensures (passed_on c.requires.so_far c.operation_at-operation.ensures marked
    (λ q to. ahead q (c.target.ensures ∙ to)))
