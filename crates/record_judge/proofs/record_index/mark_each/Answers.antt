use Rattle.std.proofs.Common.{arith}
use Rattle.record_judge.specs.Sealed.{marked}
use Rattle.record_judge.proofs.SealedLemmas.{one_more_any}
use Rattle.record_judge.proofs.record_index.mark_each.Goals as goal

pub loop-place-preserved : goal.loop-place-preserved
loop-place-preserved c =
    let was = c.loop-place.invariant in record {
      rows = one_more_any (marked c.args.number) c.args.rows.now c.loop-place.rows _ c.loop-place.place was.rows
          (omega (arith, c.loop-place-test.true)) c.mark_place.ensures.rows;
      index = λ kept. c.mark_place.ensures.index (was.index kept);
    }
