use Rattle.std.proofs.Common.{◌+◌, refl, arith, below_more, inl}
use Rattle.filing_verify.proofs.Procedures.{stays}
use Rattle.filing_verify.proofs.inside.stays_inside.Goals as goal

pub returns-then-runs_on-clause-outside : goal.returns-then-runs_on-clause-outside
returns-then-runs_on-clause-outside c = λ _ s.
    let off = c.runs_on.ensures.off c.if-runs_on.true in
    let place = c.loop-place.place in
    off.1.out (s.inside place (place + 1) off.0 (off.1.operation, off.1.here, inl (off.1.goes, refl)))

pub loop-place-preserved : goal.loop-place-preserved
loop-place-preserved c = below_more _ _ c.loop-place.invariant (c.runs_on.ensures.on c.if-runs_on.false)

pub returns-clause-inside : goal.returns-clause-inside
returns-clause-inside c = λ _. record {
  some = omega (arith, c.if-place_count-lt1.false, c.place_count.ensures.value);
  inside = stays c.args.image.now c.requires.in_range (λ p within.
      c.loop-place.invariant p (omega (arith, within, c.place_count-place-end.ensures.value, c.loop-place-test.false)));
}
