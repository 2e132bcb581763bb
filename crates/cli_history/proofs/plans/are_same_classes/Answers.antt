use Rattle.std.proofs.Common.{arith}
use Rattle.class_plan.specs.Parts.{answer_row}
use Rattle.record_judge.proofs.SealedLemmas.{same_at}
use Rattle.cli_history.proofs.plans.are_same_classes.Goals as goal

pub returns-then-not-is_same_class : goal.returns-then-not-is_same_class
returns-then-not-is_same_class c = (
  λ h. absurd (let x = h in cc),
  λ same.
      let yes = c.is_same_class.ensures.1 (same_at answer_row c.args.ones.now c.args.others.now c.loop-place.place _ _
      (omega (arith, c.loop-place-test.true)) (omega (arith, c.loop-place-test.true)) same) in
      let no = c.if-not-is_same_class.true in
      absurd cc,
)
