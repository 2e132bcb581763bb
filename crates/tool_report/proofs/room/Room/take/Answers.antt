use Rattle.std.proofs.Common.{arith}
use Rattle.std.proofs.lemmas.List.Sums.{sum_by_more, sum_by_more_le}
use Rattle.tool_report.specs.Room.{octets_in}
use Rattle.tool_report.proofs.room.Room.take.Goals as goal

pub loop-place-preserved : goal.loop-place-preserved
loop-place-preserved c =
    let more = sum_by_more (octets_in c.args.fields.now) c.args.places.now c.loop-place.place-index 0 c.loop-place-test.true in
    omega (arith, more, c.in-Some.ensures.0, c.in-Some.ensures.1, c.loop-place.invariant)

pub returns-in-None-clause-full : goal.returns-in-None-clause-full
returns-in-None-clause-full c _ =
    let more = sum_by_more_le (octets_in c.args.fields.now) c.args.places.now c.loop-place.place-index 0 c.loop-place-test.true in
    omega (arith, more, c.in-None.ensures, c.loop-place.invariant)
