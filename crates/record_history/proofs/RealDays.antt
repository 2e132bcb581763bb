-- What the calendar makes of a year, a month and a day.
use Rattle.std.proofs.Common.{◌≡◌, ℕ, ◌<◌, ◌≤◌, Bool, true, false, Some, None, refl, sym, ap, ◌∙◌, arith, subst, w8, w16, w64, FitsSigned, to_z}
use Rattle.std.proofs.Common.{of_z, Result, Ok, Err, ℤ, pos, ◌≤ℤ◌, unsigned_abs}
use Rattle.std.specs.Prelude.{if◌then◌else◌, ◌&&◌, nat_le, IsOk, IfOk, ◌↔◌}
use Rattle.std.proofs.lemmas.Bool.{false≢true}
use Rattle.std.proofs.lemmas.Bool.Decides.{nat_tests}
use Rattle.std.proofs.lemmas.Int.{to_z_pos, to_z-of_z}
use Rattle.jiff.specs.Words.{epoch_day, IsBetween, IsDate, IsYmd, days_in_month}
use Rattle.jiff_core.specs.declared.civil.date.Date.{Date}
use Rattle.jiff_core.specs.Calendar.{days_from_civil}
use Rattle.jiff_core.proofs.SignedLemmas.{signed_arith}
use Rattle.jiff_core.proofs.DateLemmas.{epoch_day_range}
use Rattle.class_plan.specs.Calendar.{Civil, number_of, number_of_day}
use Rattle.class_plan.proofs.Due.{from_zero}
use Rattle.jiff_core.proofs.CalendarLemmas.{days_in_month_bounds}
use Rattle.record_history.proofs.DayLemmas.{number_pos}
use Rattle.record_history.specs.Reading.{is_real, real_day}

abbrev date_of : (y m d : ℕ) → Civil
date_of y m d = record { year = y; month = m; day = d }

pub out_of_range : (y m d : ℕ) → is_real (date_of y m d) ≡ false → real_day (date_of y m d) ≡ None
unfolding real_day
out_of_range y m d h = λ i. if h i then Some (number_of (date_of y m d)) else None

pub year_low : (y m d : ℕ) → y < 1970 → real_day (date_of y m d) ≡ None
year_low y m d h = out_of_range y m d (grind (arith, nat_tests))

pub year_high : (y m d : ℕ) → 9999 < y → real_day (date_of y m d) ≡ None
year_high y m d h = out_of_range y m d (grind (arith, nat_tests))

pub month_high : (y m d : ℕ) → 12 < m → real_day (date_of y m d) ≡ None
month_high y m d h = out_of_range y m d (grind (arith, nat_tests))

past_month : (d most : ℕ) → most ≤ 31 → 31 < d → nat_le d most ≡ false
past_month d most h k = grind (arith, nat_tests)

none_real : (a b c e f : Bool) → (a && b && c && e && f && false) ≡ false
none_real a b c e f = go (a && b && c && e && f)
  where
    go : (x : Bool) → (x && false) ≡ false
    go true = refl
    go false = refl

pub day_high : (y m d : ℕ) → 31 < d → real_day (date_of y m d) ≡ None
day_high y m d h =
    let test = past_month d (days_in_month (pos y) m) (days_in_month_bounds (pos y) m).0 h in
    out_of_range y m d ((λ i. nat_le 1970 y && nat_le y 9999 && nat_le 1 m && nat_le m 12 && nat_le 1 d && test i)
    ∙ none_real (nat_le 1970 y) (nat_le y 9999) (nat_le 1 m) (nat_le m 12) (nat_le 1 d))

-- a date that is real has the parts of one
year_in : (y m d : ℕ) → is_real (date_of y m d) ≡ true → (1970 ≤ y) × (y ≤ 9999)
year_in y m d h = (grind (arith, nat_tests), grind (arith, nat_tests))

month_in : (y m d : ℕ) → is_real (date_of y m d) ≡ true → (1 ≤ m) × (m ≤ 12)
month_in y m d h = (grind (arith, nat_tests), grind (arith, nat_tests))

day_in : (y m d : ℕ) → is_real (date_of y m d) ≡ true → (1 ≤ d) × (d ≤ days_in_month (pos y) m)
day_in y m d h = (grind (arith, nat_tests), grind (arith, nat_tests))

real_parts : (y m d : ℕ) → is_real (date_of y m d) ≡ true → IsDate (pos y) (pos m) (pos d)
real_parts y m d h =
    let a = year_in y m d h in
    let b = month_in y m d h in
    let e = day_in y m d h in (
      (omega (arith, signed_arith), omega (arith, signed_arith)),
      (omega (arith, signed_arith), omega (arith, signed_arith)),
      (omega (arith, signed_arith), omega (arith, signed_arith)),
    )

pub parts_real : (y m d : ℕ) → 1970 ≤ y → IsDate (pos y) (pos m) (pos d) → is_real (date_of y m d) ≡ true
parts_real y m d low h =
    let a : y ≤ 9999 = let x = h.0.1 in omega (arith, signed_arith) in
    let b : 1 ≤ m = let x = h.1.0 in omega (arith, signed_arith) in
    let e : m ≤ 12 = let x = h.1.1 in omega (arith, signed_arith) in
    let f : 1 ≤ d = let x = h.2.0 in omega (arith, signed_arith) in
    let g : d ≤ days_in_month (pos y) m = let x = h.2.1 in omega (arith, signed_arith) in
    all_real (nat_le 1970 y) (nat_le y 9999) (nat_le 1 m) (nat_le m 12) (nat_le 1 d)
    (nat_le d (days_in_month (pos y) m)) (grind (arith, nat_tests)) (grind (arith, nat_tests)) (grind (
      arith,
      nat_tests,
    )) (grind (arith, nat_tests)) (grind (arith, nat_tests)) (fits d (days_in_month (pos y) m) g)
  where
    fits : (a b : ℕ) → a ≤ b → nat_le a b ≡ true
    fits a b h = grind (arith, nat_tests)

    all_real : (a b c d e f : Bool) → a ≡ true → b ≡ true → c ≡ true → d ≡ true → e ≡ true → f ≡ true → (a && b && c && d && e && f) ≡ true
    all_real a b c d e f ea eb ec ed ee ef = λ i. ea i && eb i && ec i && ed i && ee i && ef i

unreal : (y m d : ℕ) → (IsDate (pos y) (pos m) (pos d) → ⊥) → real_day (date_of y m d) ≡ None
unreal y m d none = go (is_real (date_of y m d)) refl
  where
    go : (b : Bool) → is_real (date_of y m d) ≡ b → real_day (date_of y m d) ≡ None
    go true e = absurd (none (real_parts y m d e))
    go false e = out_of_range y m d e

real : (y m d : ℕ) (date : Date) → 1970 ≤ y → IsDate (pos y) (pos m) (pos d) → IsYmd (pos y) (pos m) (pos d) date
    → real_day (date_of y m d) ≡ Some (number_of_day date)
unfolding real_day
real y m d date low is ymd =
    let month : date.month ≡ m = let x = ymd.1 in omega (arith, signed_arith) in
    let day : date.day ≡ d = let x = ymd.2 in omega (arith, signed_arith) in
    let same : number_of_day date ≡ number_of (date_of y m d) = λ i. unsigned_abs (days_from_civil (ymd.0 i) (month i) (day i)) in
    (λ i. if parts_real y m d low is i then Some (number_of (date_of y m d)) else None) ∙ sym (ap Some same)

civil_parts : (y m d : ℕ) (y' m' d' : ℤ) → y' ≡ pos y → m' ≡ pos m → d' ≡ pos d → IsDate y' m' d' → IsDate (pos y) (pos m) (pos d)
civil_parts y m d y' m' d' ey em ed is =
    subst (λ z. IsDate z (pos m) (pos d)) ey (subst (λ z. IsDate y' z (pos d)) em (subst (λ z. IsDate y' m' z) ed is))

parts_civil : (y m d : ℕ) (y' m' d' : ℤ) → y' ≡ pos y → m' ≡ pos m → d' ≡ pos d → IsDate (pos y) (pos m) (pos d) → IsDate y' m' d'
parts_civil y m d y' m' d' ey em ed is =
    subst (λ z. IsDate y' m' z) (sym ed) (subst (λ z.
    IsDate y' z (pos d)) (sym em) (subst (λ z. IsDate z (pos m) (pos d)) (sym ey) is))

module _ {E : Type 0} (r : Result Date E) (y m d : ℕ) (low : 1970 ≤ y) (year : y ≤ 9999) (month : m ≤ 12) (day : d ≤ 31)
    (iff : IsOk r ↔ IsDate (to_z w16 y) (to_z w8 m) (to_z w8 d)) (ymd : IfOk r (IsYmd (to_z w16 y) (to_z w8 m) (to_z w8 d))) where
  same_year : to_z w16 y ≡ pos y
  same_year = to_z_pos w16 y (omega arith)

  same_month : to_z w8 m ≡ pos m
  same_month = to_z_pos w8 m (omega arith)

  same_day : to_z w8 d ≡ pos d
  same_day = to_z_pos w8 d (omega arith)

  parts_of : (date : Date) → r ≡ Ok date → IsYmd (to_z w16 y) (to_z w8 m) (to_z w8 d) date
  parts_of date e = let P : Result Date E → Type 0 = λ x. IfOk x (IsYmd (to_z w16 y) (to_z w8 m) (to_z w8 d)) in subst P e ymd

  pub made : (date : Date) → r ≡ Ok date → real_day (date_of y m d) ≡ Some (number_of_day date)
  made date e =
      let P : Result Date E → Type 0 = λ x. IsOk x ↔ IsDate (to_z w16 y) (to_z w8 m) (to_z w8 d) in
      let parts = parts_of date e in
      real y m d date low (civil_parts y m d _ _ _ same_year same_month same_day ((subst P e iff).0 refl))
      (parts.0 ∙ same_year, parts.1 ∙ same_month, parts.2 ∙ same_day)

  pub made_none : (f : E) → r ≡ Err f → real_day (date_of y m d) ≡ None
  made_none f e =
      let P : Result Date E → Type 0 = λ x. IsOk x ↔ IsDate (to_z w16 y) (to_z w8 m) (to_z w8 d) in
      unreal y m d (λ is. false≢true ((subst P e iff).1 (parts_civil y m d _ _ _ same_year same_month same_day is)))

  pub made_year : (date : Date) → r ≡ Ok date → pos 1970 ≤ℤ date.year
  made_year date e =
      let year : date.year ≡ pos y = (parts_of date e).0 ∙ same_year in
      rw year (omega (arith, signed_arith))

pub day_in_range : (d : Date) → pos 1970 ≤ℤ d.year → IsBetween (pos 0) (pos 2932896) (epoch_day d)
day_in_range d h = let top = epoch_day_range d in (from_zero d h, omega (arith, signed_arith))

-- the number of a day, as the code has it
pub told_day : (z : ℤ) (d : Date) → z ≡ epoch_day d → pos 1970 ≤ℤ d.year → to_z w64 (of_z w64 z) ≡ pos (number_of_day d)
told_day z d is low =
    let range = day_in_range d low in
    let fits : FitsSigned w64 z = omega (arith, signed_arith, range.0, range.1, is) in
    to_z-of_z w64 z fits ∙ is ∙ number_pos (epoch_day d) range.0

pub small_day : (d : Date) → pos 1970 ≤ℤ d.year → number_of_day d ≤ 2932896
small_day d low =
    let range = day_in_range d low in
    let same = number_pos (epoch_day d) range.0 in
    omega (arith, signed_arith, range.1, same)
