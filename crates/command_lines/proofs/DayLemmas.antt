-- Days of words.
use Rattle.std.proofs.Common.{◌≡◌, ℕ, ◌≤◌, ◌<◌, List, Bool, true, false, Option, Some, None, take, drop, refl, sym, ap, ◌∙◌, arith, subst}
use Rattle.std.proofs.Common.{w8, w16, to_z, Result, Ok, Err, ℤ, pos}
use Rattle.std.specs.Result.{result_ok}
use Rattle.std.specs.Prelude.{if◌then◌else◌, ◌&&◌, nat_le, IsOk, IfOk, ◌↔◌, option_map}
use Rattle.std.proofs.lemmas.Bool.{false≢true}
use Rattle.std.proofs.lemmas.Bool.Decides.{nat_tests}
use Rattle.std.proofs.lemmas.Int.{to_z_pos}
use Rattle.jiff.specs.Types.{Date}
use Rattle.jiff.specs.Words.{IsDate, IsYmd, days_in_month}
use Rattle.jiff.proofs.SpanFacts.{signed_arith}
use Rattle.session_words.specs.Words.{digits_up_to}
use Rattle.command_lines.specs.Days.{Parts, Named, named, has_hyphens, parts_from, is_real, real_day, day_typed}

-- ---- days of words

pub no_hyphens : (word : List ℕ) → has_hyphens word ≡ false → None ≡ day_typed word
unfolding day_typed
no_hyphens word h = λ i.
    real_day (if (sym h) i then parts_from (digits_up_to 9999 (take 4 word)) (digits_up_to 12 (take 2 (drop 5 word)))
    (digits_up_to 31 (take 2 (drop 8 word))) else None)

pub day_read : (word : List ℕ) (y m d : Option ℕ) → has_hyphens word ≡ true → y ≡ digits_up_to 9999 (take 4 word)
    → m ≡ digits_up_to 12 (take 2 (drop 5 word)) → d ≡ digits_up_to 31 (take 2 (drop 8 word))
    → real_day (parts_from y m d) ≡ day_typed word
unfolding day_typed
day_read word y m d h year month day = λ i. real_day (if (sym h) i then parts_from (year i) (month i) (day i) else None)

abbrev parts : (y m d : ℕ) → Parts
parts y m d = record { year = y; month = m; day = d }

abbrev day_named : (y m d : ℕ) → Named
day_named y m d = (pos y, m, d)

pub before_1970 : (y m d : ℕ) → y < 1970 → None ≡ real_day (Some (parts y m d))
before_1970 y m d h = grind (arith, nat_tests)

-- a date that is real has the parts of one
year_in : (y m d : ℕ) → is_real (parts y m d) ≡ true → (1970 ≤ y) × (y ≤ 9999)
year_in y m d h = (grind (arith, nat_tests), grind (arith, nat_tests))

month_in : (y m d : ℕ) → is_real (parts y m d) ≡ true → (1 ≤ m) × (m ≤ 12)
month_in y m d h = (grind (arith, nat_tests), grind (arith, nat_tests))

day_in : (y m d : ℕ) → is_real (parts y m d) ≡ true → (1 ≤ d) × (d ≤ days_in_month (pos y) m)
day_in y m d h = (grind (arith, nat_tests), grind (arith, nat_tests))

real_parts : (y m d : ℕ) → is_real (parts y m d) ≡ true → IsDate (pos y) (pos m) (pos d)
real_parts y m d h =
    let a = year_in y m d h in
    let b = month_in y m d h in
    let e = day_in y m d h in (
      (omega (arith, signed_arith), omega (arith, signed_arith)),
      (omega (arith, signed_arith), omega (arith, signed_arith)),
      (omega (arith, signed_arith), omega (arith, signed_arith)),
    )

parts_real : (y m d : ℕ) → 1970 ≤ y → IsDate (pos y) (pos m) (pos d) → is_real (parts y m d) ≡ true
parts_real y m d low h =
    let a : y ≤ 9999 = let x = h.0.1 in omega (arith, signed_arith) in
    let b : 1 ≤ m = let x = h.1.0 in omega (arith, signed_arith) in
    let e : m ≤ 12 = let x = h.1.1 in omega (arith, signed_arith) in
    let f : 1 ≤ d = let x = h.2.0 in omega (arith, signed_arith) in
    let g : d ≤ days_in_month (pos y) m = let x = h.2.1 in omega (arith, signed_arith) in
    all_real (nat_le 1970 y) (nat_le y 9999) (nat_le 1 m) (nat_le m 12) (nat_le 1 d)
    (nat_le d (days_in_month (pos y) m)) (grind (arith, nat_tests)) (grind (arith, nat_tests)) (grind (
      arith,
      nat_tests,
    )) (grind (arith, nat_tests)) (grind (arith, nat_tests)) (fits d (days_in_month (pos y) m) g)
  where
    fits : (a b : ℕ) → a ≤ b → nat_le a b ≡ true
    fits a b h = grind (arith, nat_tests)

    all_real : (a b c d e f : Bool) → a ≡ true → b ≡ true → c ≡ true → d ≡ true → e ≡ true → f ≡ true → (a && b && c && d && e && f) ≡ true
    all_real a b c d e f ea eb ec ed ee ef = λ i. ea i && eb i && ec i && ed i && ee i && ef i

unreal : (y m d : ℕ) → (IsDate (pos y) (pos m) (pos d) → ⊥) → None ≡ real_day (Some (parts y m d))
unreal y m d none = go (is_real (parts y m d)) refl
  where
    go : (b : Bool) → is_real (parts y m d) ≡ b → None ≡ (if is_real (parts y m d) then Some (day_named y m d) else None)
    go true e = absurd (none (real_parts y m d e))
    go false e = λ i. if (sym e) i then Some (day_named y m d) else None

real : (y m d : ℕ) (date : Date) → 1970 ≤ y → IsDate (pos y) (pos m) (pos d) → IsYmd (pos y) (pos m) (pos d) date
    → Some (named date) ≡ real_day (Some (parts y m d))
real y m d date low is ymd =
    let month : date.month ≡ m = let x = ymd.1 in omega (arith, signed_arith) in
    let day : date.day ≡ d = let x = ymd.2 in omega (arith, signed_arith) in
    let same : named date ≡ day_named y m d = λ i. (ymd.0 i, month i, day i) in
    ap Some same ∙ (λ i. if (sym (parts_real y m d low is)) i then Some (day_named y m d) else None)

-- the same by what the calendar makes of the parts
civil_parts : (y m d : ℕ) (y' m' d' : ℤ) → y' ≡ pos y → m' ≡ pos m → d' ≡ pos d → IsDate y' m' d' → IsDate (pos y) (pos m) (pos d)
civil_parts y m d y' m' d' ey em ed is =
    subst (λ z. IsDate z (pos m) (pos d)) ey (subst (λ z. IsDate y' z (pos d)) em (subst (λ z. IsDate y' m' z) ed is))

parts_civil : (y m d : ℕ) (y' m' d' : ℤ) → y' ≡ pos y → m' ≡ pos m → d' ≡ pos d → IsDate (pos y) (pos m) (pos d) → IsDate y' m' d'
parts_civil y m d y' m' d' ey em ed is =
    subst (λ z. IsDate y' m' z) (sym ed) (subst (λ z.
    IsDate y' z (pos d)) (sym em) (subst (λ z. IsDate z (pos m) (pos d)) (sym ey) is))

module _ {E : Type 0} (r : Result Date E) (y m d : ℕ) (low : 1970 ≤ y) (year : y ≤ 9999) (month : m ≤ 12) (day : d ≤ 31)
    (iff : IsOk r ↔ IsDate (to_z w16 y) (to_z w8 m) (to_z w8 d)) (ymd : IfOk r (IsYmd (to_z w16 y) (to_z w8 m) (to_z w8 d))) where
  same_year : to_z w16 y ≡ pos y
  same_year = to_z_pos w16 y (omega arith)

  same_month : to_z w8 m ≡ pos m
  same_month = to_z_pos w8 m (omega arith)

  same_day : to_z w8 d ≡ pos d
  same_day = to_z_pos w8 d (omega arith)

  parts_of : (date : Date) → r ≡ Ok date → IsYmd (to_z w16 y) (to_z w8 m) (to_z w8 d) date
  parts_of date e = let P : Result Date E → Type 0 = λ x. IfOk x (IsYmd (to_z w16 y) (to_z w8 m) (to_z w8 d)) in subst P e ymd

  made : (date : Date) → r ≡ Ok date → Some (named date) ≡ real_day (Some (parts y m d))
  made date e =
      let P : Result Date E → Type 0 = λ x. IsOk x ↔ IsDate (to_z w16 y) (to_z w8 m) (to_z w8 d) in
      let parts = parts_of date e in
      real y m d date low (civil_parts y m d _ _ _ same_year same_month same_day ((subst P e iff).0 refl))
      (parts.0 ∙ same_year, parts.1 ∙ same_month, parts.2 ∙ same_day)

  made_none : (f : E) → r ≡ Err f → None ≡ real_day (Some (parts y m d))
  made_none f e =
      let P : Result Date E → Type 0 = λ x. IsOk x ↔ IsDate (to_z w16 y) (to_z w8 m) (to_z w8 d) in
      unreal y m d (λ is. false≢true ((subst P e iff).1 (parts_civil y m d _ _ _ same_year same_month same_day is)))

  pub day_made : option_map named (result_ok r) ≡ real_day (Some (parts y m d))
  day_made = go r refl
    where
      go : (x : Result Date E) → r ≡ x → option_map named (result_ok x) ≡ real_day (Some (parts y m d))
      go (Ok date) e = made date e
      go (Err f) e = made_none f e
