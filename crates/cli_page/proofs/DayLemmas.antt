-- Days before 1970.
use Rattle.std.proofs.Common.{◌≡◌, ℕ, ◌<◌, ◌≤◌, ◌^◌, ℤ, pos, negsuc, ◌<ℤ◌, ◌≤ℤ◌, FitsSigned, to_z, of_z, w16, w64, subst, ◌∙◌, arith}
use Rattle.std.specs.Int.{FitsUnsignedBits}
use Rattle.std.proofs.lemmas.Int.{to_z-of_z}
use Rattle.jiff_core.specs.Date.{epoch_day}
use Rattle.jiff_core.specs.declared.civil.date.Date.{Date}
use Rattle.jiff_core.proofs.SignedLemmas.{signed_arith}
use Rattle.jiff_core.proofs.DateLemmas.{civil, epoch_day_range}
use Rattle.jiff_core.proofs.CalendarLemmas.{days_from_civil-day_count, day_count-lt_year, day_count-epoch}

before_1970 : (d : Date) → d.year <ℤ pos 1970 → epoch_day d <ℤ pos 0
before_1970 d lt =
    let below = day_count-lt_year d.year d.month d.day (pos 1970) 1 1 (civil d) (omega arith) lt in
    let counted = days_from_civil-day_count d.year d.month d.day in
    let first = day_count-epoch in
    omega (arith, signed_arith)

negative : (bits : ℕ) (most : ℕ) (z : ℤ) → most < 2 ^ bits → z ≤ℤ pos most → (FitsUnsignedBits bits z → ⊥) → z <ℤ pos 0
negative bits most (pos n) small within none = let le : n ≤ most = omega (arith, signed_arith) in absurd (none (omega arith))
negative bits most (negsuc n) small within none = omega (arith, signed_arith)

number_fits : (d : Date) (z : ℤ) → z ≡ epoch_day d → FitsSigned w64 z
number_fits d z is = let range = epoch_day_range d in omega (arith, signed_arith)

year_fits : (d : Date) (z : ℤ) → z ≡ d.year → FitsSigned w16 z
year_fits d z is = let range = d.year_in in omega (arith, signed_arith)

-- a day whose number does not fit
pub no_number : (d : Date) (z : ℤ) → z ≡ epoch_day d → (FitsUnsignedBits 32 (to_z w64 (of_z w64 z)) → ⊥) → epoch_day d <ℤ pos 0
no_number d z is none =
    let same : to_z w64 (of_z w64 z) ≡ epoch_day d = to_z-of_z w64 z (number_fits d z is) ∙ is in
    negative 32 2932896 (epoch_day d) (omega arith) (epoch_day_range d).1 (subst (λ (x : ℤ). FitsUnsignedBits 32 x → ⊥) same none)

-- a day whose year does not fit
pub no_year_number : (d : Date) (z : ℤ) → z ≡ d.year → (FitsUnsignedBits 16 (to_z w16 (of_z w16 z)) → ⊥) → epoch_day d <ℤ pos 0
no_year_number d z is none =
    let same : to_z w16 (of_z w16 z) ≡ d.year = to_z-of_z w16 z (year_fits d z is) ∙ is in
    let negative_year = negative 16 9999 d.year (omega arith) d.year_in.1 (subst (λ (x : ℤ). FitsUnsignedBits 16 x → ⊥) same none) in
    before_1970 d (omega (arith, signed_arith))
