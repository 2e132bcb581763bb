use Rattle.std.proofs.Common.{◌≡◌, ◌≤ℤ◌, ◌<ℤ◌, ◌≤◌, ℤ, pos, negsuc, refl, arith, unsigned_abs, ◌∙◌, ap, w64, FitsSigned, to_z, of_z}
use Rattle.std.specs.Option.{unwrap_or}
use Rattle.std.proofs.lemmas.Int.{to_z-of_z}
use Rattle.jiff.specs.Words.{epoch_day}
use Rattle.jiff.proofs.SpanFacts.{signed_arith}
use Rattle.jiff_core.proofs.DateLemmas.{epoch_day_range}
use Rattle.jiff_core.specs.declared.civil.date.Date.{Date}
use Rattle.record_archive.specs.Archive.{from_1970}
use Rattle.record_ledger.specs.Notes.{number_since_1970}
use Rattle.record_ledger.proofs.deeds.number_since_1970.Goals as goal

early : (z : ℤ) → z <ℤ pos 0 → 0 ≡ unwrap_or (from_1970 z) 0
early (pos n) low = absurd (omega (arith, signed_arith, low))
early (negsuc n) low = refl

since : (z : ℤ) → pos 0 ≤ℤ z → z ≡ pos (unwrap_or (from_1970 z) 0)
since (pos n) low = refl
since (negsuc n) low = absurd (omega (arith, signed_arith, low))

told : (z : ℤ) (d : Date) → z ≡ epoch_day d → pos 0 ≤ℤ z → to_z w64 (of_z w64 z) ≡ pos (number_since_1970 d)
told z d is low =
    let range = epoch_day_range d in
    let fits : FitsSigned w64 z = omega (arith, signed_arith, range.0, range.1, is, low) in
    to_z-of_z w64 z fits ∙ is ∙ since (epoch_day d) (omega (arith, signed_arith, is, low))

small : (d : Date) → pos 0 ≤ℤ epoch_day d → number_since_1970 d ≤ 2932896
small d low =
    let range = epoch_day_range d in
    let same = since (epoch_day d) low in
    omega (arith, signed_arith, range.1, same)

pub returns-then-number-lt0-clause-number : goal.returns-then-number-lt0-clause-number
returns-then-number-lt0-clause-number c =
    let same = c.day_number-number.ensures.number in
    let range = epoch_day_range c.args.day in
    early (epoch_day c.args.day) (omega (arith, signed_arith, same, range, c.if-number-lt0.true))

pub overflow_cast-result : goal.overflow_cast-result
overflow_cast-result c =
    let same = c.day_number-number.ensures.number in
    let range = epoch_day_range c.args.day in
    let low : pos 0 ≤ℤ c.day_number-number.result = omega (arith, signed_arith, same, range, c.if-number-lt0.false) in
    let few = small c.args.day (omega (arith, signed_arith, same, low)) in
    rw (told c.day_number-number.result c.args.day same low) (tt, omega (arith, few))

pub returns-clause-number : goal.returns-clause-number
returns-clause-number c =
    let same = c.day_number-number.ensures.number in
    let range = epoch_day_range c.args.day in
    let low : pos 0 ≤ℤ c.day_number-number.result = omega (arith, signed_arith, same, range, c.if-number-lt0.false) in
    ap unsigned_abs (told c.day_number-number.result c.args.day same low)

pub returns-clause-small : goal.returns-clause-small
returns-clause-small c =
    let same = c.day_number-number.ensures.number in
    let range = epoch_day_range c.args.day in
    let low : pos 0 ≤ℤ c.day_number-number.result = omega (arith, signed_arith, same, range, c.if-number-lt0.false) in
    rw (told c.day_number-number.result c.args.day same low) (small c.args.day (omega (arith, signed_arith, same, low)))
