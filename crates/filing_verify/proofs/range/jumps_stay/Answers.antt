use Rattle.std.proofs.Common.{arith, below_more}
use Rattle.std.proofs.lemmas.Option.{slice_get_within}
use Rattle.filing_verify.proofs.range.jumps_stay.Goals as goal

pub returns-then-jumps_out-clause-no : goal.returns-then-jumps_out-clause-no
returns-then-jumps_out-clause-no c = λ _ stay.
    let out = c.jumps_out.ensures.out c.if-jumps_out.true in
    out.out (stay c.loop-place.place out.to out.operation out.here out.jumps)

pub loop-place-preserved : goal.loop-place-preserved
loop-place-preserved c = below_more _ _ c.loop-place.invariant (c.jumps_out.ensures.stays c.if-jumps_out.false)

pub returns-clause-yes : goal.returns-clause-yes
returns-clause-yes c = λ _ p q o at to.
    let within = slice_get_within c.args.image.now.code p o at in
    c.loop-place.invariant p (omega (arith, within, c.place_count-place-end.ensures.value, c.loop-place-test.false)) q o at to
