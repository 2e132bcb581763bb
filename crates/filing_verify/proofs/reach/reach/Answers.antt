use Rattle.std.proofs.Common.{◌≡◌, length, arith, rules}
use Rattle.filing_verify.specs.Passes.{Marks}
use Rattle.filing_verify.proofs.Marking.{complete, goes_forward}
use Rattle.filing_verify.proofs.Procedures.{onward, forward}
use Rattle.filing_verify.proofs.reach.reach.Goals as goal

pub returns-then-not-pass_on-clause-backward : goal.returns-then-not-pass_on-clause-backward
returns-then-not-pass_on-clause-backward c = λ f. c.pass_on.ensures.backward c.if-not-pass_on.true (onward c.args.image.now c.requires f)

pub returns : goal.returns
returns c =
    let end : c.loop-place.place ≡ length c.args.image.now.code = omega arith in
    let all : Marks c.args.image.now (length c.args.image.now.code) c.loop-place.marks.items = rw (← end) c.loop-place.invariant in
    record {
      marks = (c.loop-place.invariant.long, λ p lt. (λ h. c.loop-place.invariant.sound p h, λ r. complete all r.0 p r.1 lt));
      forward = forward c.args.image.now c.requires (goes_forward all);
      onward = goes_forward all;
      backward = search rules;
    }
