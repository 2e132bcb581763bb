use Rattle.std.proofs.Common.{◌≡◌, ◌+◌, take, arith}
use Rattle.std.proofs.lemmas.List.{take_all}
use Rattle.sieve_text.proofs.NumberLemmas.{digit_at, one_more, no_less}
use Rattle.sieve_text.proofs.scanner.number.decimal.Goals as goal

pub overflow_sub-b : goal.overflow_sub-b
overflow_sub-b c = (digit_at c.args.digits.now c.loop-b.b-index c.requires c.loop-b-test.true).0

pub returns-then-value-digit : goal.returns-then-value-digit
returns-then-value-digit c = λ small.
    let m = one_more c.args.digits.now c.loop-b.b-index c.requires c.loop-b-test.true in
    let d = digit_at c.args.digits.now c.loop-b.b-index c.requires c.loop-b-test.true in
    let n = no_less c.args.digits.now (c.loop-b.b-index + 1) in
    omega arith

pub loop-b-preserved : goal.loop-b-preserved
loop-b-preserved c =
    let m = one_more c.args.digits.now c.loop-b.b-index c.requires c.loop-b-test.true in
    let d = digit_at c.args.digits.now c.loop-b.b-index c.requires c.loop-b-test.true in
    (omega arith, omega arith)

pub returns : goal.returns
returns c =
    let whole : take c.loop-b.b-index c.args.digits.now ≡ c.args.digits.now = take_all c.loop-b.b-index c.args.digits.now c.loop-b-test.false in
    let e = rw whole at c.loop-b.invariant.0 in
    (omega arith, e)
