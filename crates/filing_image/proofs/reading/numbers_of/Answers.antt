use Rattle.std.proofs.lemmas.Result.{err_from_is_err_and}
use Rattle.std.specs.Int.{w64}
use Rattle.filing_image.specs.Reading.{number_at, many_at}
use Rattle.filing_image.proofs.Loop.{goes_on, ends, is_done}
use Rattle.filing_image.proofs.reading.numbers_of.Goals as goal

pub returns-in_err-number : goal.returns-in_err-number
returns-in_err-number c =
    let p = err_from_is_err_and c.from_residual.result c.from_residual.ensures.1 in
    rw (p.1, p.2) (ends (number_at w64) c.in_err-number.field-0.0 c.loop.numbers.items c.args.count c.loop.counter
    c.loop.rest.now (many_at (number_at w64) c.args.count c.args.octets.now) c.loop-test.true
    c.in_err-number.ensures c.loop.invariant)

pub loop-preserved : goal.loop-preserved
loop-preserved c =
    rw c.in_ok-push.ensures.items (goes_on (number_at w64) c.loop.numbers.items c.args.count c.loop.counter
    c.loop.rest.now c.in_ok-number.number c.in_ok-number.after.now
    (many_at (number_at w64) c.args.count c.args.octets.now) c.loop-test.true c.in_ok-number.ensures
    c.loop.invariant)

pub returns : goal.returns
returns c = is_done (number_at w64) c.loop.numbers.items c.args.count c.loop.counter c.loop.rest.now
    (many_at (number_at w64) c.args.count c.args.octets.now) c.loop-test.false c.loop.invariant
