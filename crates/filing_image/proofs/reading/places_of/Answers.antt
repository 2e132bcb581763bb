use Rattle.std.proofs.lemmas.Result.{err_from_is_err_and}
use Rattle.std.specs.Int.{w16}
use Rattle.filing_image.specs.Reading.{number_at, many_at}
use Rattle.filing_image.proofs.Loop.{goes_on, ends, is_done}
use Rattle.filing_image.proofs.reading.places_of.Goals as goal

pub returns-in_err-place : goal.returns-in_err-place
returns-in_err-place c =
    let p = err_from_is_err_and c.from_residual.result c.from_residual.ensures.1 in
    rw (p.1, p.2) (ends (number_at w16) c.in_err-place.field-0.0 c.loop.places.items c.args.count c.loop.counter
    c.loop.rest.now (many_at (number_at w16) c.args.count c.args.octets.now) c.loop-test.true c.in_err-place.ensures
    c.loop.invariant)

pub loop-preserved : goal.loop-preserved
loop-preserved c =
    rw c.in_ok-push.ensures.items (goes_on (number_at w16) c.loop.places.items c.args.count c.loop.counter
    c.loop.rest.now c.in_ok-place.place c.in_ok-place.after.now
    (many_at (number_at w16) c.args.count c.args.octets.now) c.loop-test.true c.in_ok-place.ensures
    c.loop.invariant)

pub returns : goal.returns
returns c = is_done (number_at w16) c.loop.places.items c.args.count c.loop.counter c.loop.rest.now
    (many_at (number_at w16) c.args.count c.args.octets.now) c.loop-test.false c.loop.invariant
