use Rattle.std.proofs.Common.{◌≡◌, ◌≤ℤ◌, ◌<ℤ◌, ℕ, ℤ, pos, negsuc, Some, None, refl, ap, arith, unsigned_abs}
use Rattle.jiff.specs.Words.{epoch_day}
use Rattle.jiff.proofs.SpanFacts.{signed_arith}
use Rattle.jiff_core.proofs.DateLemmas.{epoch_day_range}
use Rattle.record_archive.specs.Archive.{from_1970}
use Rattle.record_store.proofs.dues.number_from_1970.Goals as goal

none_early : (z : ℤ) → z <ℤ pos 0 → None ≡ from_1970 z
none_early (pos n) low = absurd (omega (arith, signed_arith, low))
none_early (negsuc n) low = refl

some_from : (z : ℤ) (n : ℕ) → pos 0 ≤ℤ z → n ≡ unsigned_abs z → Some n ≡ from_1970 z
some_from (pos m) n low is = ap (λ k. Some k) is
some_from (negsuc m) n low is = absurd (omega (arith, signed_arith, low))

pub number_of-requires : goal.number_of-requires
number_of-requires c =
    let same = c.day_number-number.ensures.number in
    let range = epoch_day_range c.args.day in
    (omega (arith, signed_arith, same, range, c.if-number-lt0.false), range.1)

pub returns-then-number-lt0 : goal.returns-then-number-lt0
returns-then-number-lt0 c =
    let same = c.day_number-number.ensures.number in
    let range = epoch_day_range c.args.day in
    none_early (epoch_day c.args.day) (omega (arith, signed_arith, same, range, c.if-number-lt0.true))

pub returns : goal.returns
returns c =
    let same = c.day_number-number.ensures.number in
    let range = epoch_day_range c.args.day in
    some_from (epoch_day c.args.day) c.number_of.result (omega (arith, signed_arith, same, range, c.if-number-lt0.false)) c.number_of.ensures
