-- Days of words, and the texts of days.
use Rattle.std.proofs.Common.{◌≡◌, ℕ, ◌<◌, ◌≤◌, ◌++◌, List, [], append_assoc, Bool, true, false, Option, Some, None}
use Rattle.std.proofs.Common.{take, drop, refl, sym, ap, ◌∙◌, arith, subst, FitsSigned, w8, w16, to_z, Result, Ok, Err, ℤ}
use Rattle.std.proofs.Common.{pos, negsuc, ◌≤ℤ◌, ◌<ℤ◌, unsigned_abs, decimal, codes}
use Rattle.std.specs.Prelude.{if◌then◌else◌, ◌&&◌, nat_le, IsOk, IfOk, ◌↔◌}
use Rattle.std.proofs.lemmas.Bool.{false≢true}
use Rattle.std.proofs.lemmas.Bool.Decides.{nat_tests}
use Rattle.std.proofs.lemmas.Int.{by_lt_z, to_z_pos}
use Rattle.std.proofs.lemmas.List.{append-nil}
use Rattle.jiff.specs.Words.{epoch_day, IsBetween, IsDate, IsYmd, days_in_month}
use Rattle.jiff_core.specs.declared.civil.date.Date.{Date}
use Rattle.jiff_core.specs.Calendar.{days_from_civil}
use Rattle.jiff_core.proofs.SignedLemmas.{signed_arith}
use Rattle.jiff_core.proofs.DateLemmas.{civil as date_civil, epoch_day_range}
use Rattle.jiff_core.proofs.CalendarLemmas.{days_from_civil-day_count, day_count-lt_year, day_count-epoch, days_in_month_bounds}
use Rattle.class_plan.specs.Calendar.{Civil, number_of, number_of_day}
use Rattle.class_plan.proofs.CalendarLemmas.{civil_is}
use Rattle.class_plan.proofs.Due.{from_zero}
use Rattle.session_words.specs.Words.{digits_up_to}
use Rattle.session_protocol.specs.Dates.{has_dashes, civil_from, is_real, real_day, day_of, two_digits, civil_octets, day_octets}

-- ---- days of words

pub no_dashes : (word : List ℕ) → has_dashes word ≡ false → None ≡ day_of word
unfolding day_of
no_dashes word h = λ i.
    real_day (if (sym h) i then civil_from (digits_up_to 9999 (take 4 word)) (digits_up_to 12 (take 2 (drop 5 word)))
    (digits_up_to 31 (take 2 (drop 8 word))) else None)

pub day_read : (word : List ℕ) (y m d : Option ℕ) → has_dashes word ≡ true → y ≡ digits_up_to 9999 (take 4 word)
    → m ≡ digits_up_to 12 (take 2 (drop 5 word)) → d ≡ digits_up_to 31 (take 2 (drop 8 word))
    → real_day (civil_from y m d) ≡ day_of word
unfolding day_of
day_read word y m d h year month day = λ i. real_day (if (sym h) i then civil_from (year i) (month i) (day i) else None)

abbrev date_of : (y m d : ℕ) → Civil
date_of y m d = record { year = y; month = m; day = d }

pub before_1970 : (y m d : ℕ) → y < 1970 → None ≡ real_day (Some (date_of y m d))
before_1970 y m d h = grind (arith, nat_tests)

-- a date that is real has the parts of one
year_in : (y m d : ℕ) → is_real (date_of y m d) ≡ true → (1970 ≤ y) × (y ≤ 9999)
year_in y m d h = (grind (arith, nat_tests), grind (arith, nat_tests))

month_in : (y m d : ℕ) → is_real (date_of y m d) ≡ true → (1 ≤ m) × (m ≤ 12)
month_in y m d h = (grind (arith, nat_tests), grind (arith, nat_tests))

day_in : (y m d : ℕ) → is_real (date_of y m d) ≡ true → (1 ≤ d) × (d ≤ days_in_month (pos y) m)
day_in y m d h = (grind (arith, nat_tests), grind (arith, nat_tests))

real_parts : (y m d : ℕ) → is_real (date_of y m d) ≡ true → IsDate (pos y) (pos m) (pos d)
real_parts y m d h =
    let a = year_in y m d h in
    let b = month_in y m d h in
    let e = day_in y m d h in (
      (omega (arith, signed_arith), omega (arith, signed_arith)),
      (omega (arith, signed_arith), omega (arith, signed_arith)),
      (omega (arith, signed_arith), omega (arith, signed_arith)),
    )

parts_real : (y m d : ℕ) → 1970 ≤ y → IsDate (pos y) (pos m) (pos d) → is_real (date_of y m d) ≡ true
parts_real y m d low h =
    let a : y ≤ 9999 = let x = h.0.1 in omega (arith, signed_arith) in
    let b : 1 ≤ m = let x = h.1.0 in omega (arith, signed_arith) in
    let e : m ≤ 12 = let x = h.1.1 in omega (arith, signed_arith) in
    let f : 1 ≤ d = let x = h.2.0 in omega (arith, signed_arith) in
    let g : d ≤ days_in_month (pos y) m = let x = h.2.1 in omega (arith, signed_arith) in
    all_real (nat_le 1970 y) (nat_le y 9999) (nat_le 1 m) (nat_le m 12) (nat_le 1 d)
    (nat_le d (days_in_month (pos y) m)) (grind (arith, nat_tests)) (grind (arith, nat_tests)) (grind (
      arith,
      nat_tests,
    )) (grind (arith, nat_tests)) (grind (arith, nat_tests)) (fits d (days_in_month (pos y) m) g)
  where
    fits : (a b : ℕ) → a ≤ b → nat_le a b ≡ true
    fits a b h = grind (arith, nat_tests)

    all_real : (a b c d e f : Bool) → a ≡ true → b ≡ true → c ≡ true → d ≡ true → e ≡ true → f ≡ true → (a && b && c && d && e && f) ≡ true
    all_real a b c d e f ea eb ec ed ee ef = λ i. ea i && eb i && ec i && ed i && ee i && ef i

unreal : (y m d : ℕ) → (IsDate (pos y) (pos m) (pos d) → ⊥) → None ≡ real_day (Some (date_of y m d))
unreal y m d none = go (is_real (date_of y m d)) refl
  where
    go : (b : Bool) → is_real (date_of y m d) ≡ b → None ≡ (if is_real (date_of y m d) then Some (number_of (date_of y m d)) else None)
    go true e = absurd (none (real_parts y m d e))
    go false e = λ i. if (sym e) i then Some (number_of (date_of y m d)) else None

real : (y m d : ℕ) (date : Date) → 1970 ≤ y → IsDate (pos y) (pos m) (pos d) → IsYmd (pos y) (pos m) (pos d) date
    → Some (number_of_day date) ≡ real_day (Some (date_of y m d))
real y m d date low is ymd =
    let month : date.month ≡ m = let x = ymd.1 in omega (arith, signed_arith) in
    let day : date.day ≡ d = let x = ymd.2 in omega (arith, signed_arith) in
    let same : number_of_day date ≡ number_of (date_of y m d) = λ i. unsigned_abs (days_from_civil (ymd.0 i) (month i) (day i)) in
    ap Some same ∙ (λ i. if (sym (parts_real y m d low is)) i then Some (number_of (date_of y m d)) else None)

-- the same by what the calendar makes of the parts
civil_parts : (y m d : ℕ) (y' m' d' : ℤ) → y' ≡ pos y → m' ≡ pos m → d' ≡ pos d → IsDate y' m' d' → IsDate (pos y) (pos m) (pos d)
civil_parts y m d y' m' d' ey em ed is =
    subst (λ z. IsDate z (pos m) (pos d)) ey (subst (λ z. IsDate y' z (pos d)) em (subst (λ z. IsDate y' m' z) ed is))

parts_civil : (y m d : ℕ) (y' m' d' : ℤ) → y' ≡ pos y → m' ≡ pos m → d' ≡ pos d → IsDate (pos y) (pos m) (pos d) → IsDate y' m' d'
parts_civil y m d y' m' d' ey em ed is =
    subst (λ z. IsDate y' m' z) (sym ed) (subst (λ z.
    IsDate y' z (pos d)) (sym em) (subst (λ z. IsDate z (pos m) (pos d)) (sym ey) is))

module _ {E : Type 0} (r : Result Date E) (y m d : ℕ) (low : 1970 ≤ y) (year : y ≤ 9999) (month : m ≤ 12) (day : d ≤ 31)
    (iff : IsOk r ↔ IsDate (to_z w16 y) (to_z w8 m) (to_z w8 d)) (ymd : IfOk r (IsYmd (to_z w16 y) (to_z w8 m) (to_z w8 d))) where
  same_year : to_z w16 y ≡ pos y
  same_year = to_z_pos w16 y (omega arith)

  same_month : to_z w8 m ≡ pos m
  same_month = to_z_pos w8 m (omega arith)

  same_day : to_z w8 d ≡ pos d
  same_day = to_z_pos w8 d (omega arith)

  parts_of : (date : Date) → r ≡ Ok date → IsYmd (to_z w16 y) (to_z w8 m) (to_z w8 d) date
  parts_of date e = let P : Result Date E → Type 0 = λ x. IfOk x (IsYmd (to_z w16 y) (to_z w8 m) (to_z w8 d)) in subst P e ymd

  pub made : (date : Date) → r ≡ Ok date → Some (number_of_day date) ≡ real_day (Some (date_of y m d))
  made date e =
      let P : Result Date E → Type 0 = λ x. IsOk x ↔ IsDate (to_z w16 y) (to_z w8 m) (to_z w8 d) in
      let parts = parts_of date e in
      real y m d date low (civil_parts y m d _ _ _ same_year same_month same_day ((subst P e iff).0 refl))
      (parts.0 ∙ same_year, parts.1 ∙ same_month, parts.2 ∙ same_day)

  pub made_none : (f : E) → r ≡ Err f → None ≡ real_day (Some (date_of y m d))
  made_none f e =
      let P : Result Date E → Type 0 = λ x. IsOk x ↔ IsDate (to_z w16 y) (to_z w8 m) (to_z w8 d) in
      unreal y m d (λ is. false≢true ((subst P e iff).1 (parts_civil y m d _ _ _ same_year same_month same_day is)))

  pub made_year : (date : Date) → r ≡ Ok date → pos 1970 ≤ℤ date.year
  made_year date e =
      let year : date.year ≡ pos y = (parts_of date e).0 ∙ same_year in
      rw year (omega (arith, signed_arith))

pub day_in_range : (d : Date) → pos 1970 ≤ℤ d.year → IsBetween (pos 0) (pos 2932896) (epoch_day d)
day_in_range d h = let top = epoch_day_range d in (from_zero d h, omega (arith, signed_arith))

-- ---- numbers of days

pub natural : (z : ℤ) → pos 0 ≤ℤ z → z ≡ pos (unsigned_abs z)
natural (pos n) h = refl
natural (negsuc n) h = absurd (omega (arith, signed_arith))

before_zero : (d : Date) → d.year <ℤ pos 1970 → epoch_day d <ℤ pos 0
before_zero d lt =
    let below = day_count-lt_year d.year d.month d.day (pos 1970) 1 1 (date_civil d) (omega arith) lt in
    let counted = days_from_civil-day_count d.year d.month d.day in
    let first = day_count-epoch in
    omega (arith, signed_arith)

year_from : (d : Date) → pos 0 ≤ℤ epoch_day d → pos 1970 ≤ℤ d.year
year_from d low = by_lt_z d.year (pos 1970) (λ lt. absurd (let x = before_zero d lt in omega (arith, signed_arith))) (λ ge. ge)

-- the text of a day is that of its date
pub day_text : (d : Date) → IsBetween (pos 0) (pos 2932896) (epoch_day d)
    → day_octets (number_of_day d) ≡ decimal (unsigned_abs d.year) ++ codes "-" ++ two_digits d.month ++ codes "-"
    ++ two_digits d.day
unfolding day_octets
day_text d range = ap civil_octets (civil_is d (number_of_day d) (year_from d range.0) (natural (epoch_day d) range.0))

-- the pieces of a date, one after the other
pub date_pieces : (y m d a b tm td nl dash : List ℕ) → a ++ m ≡ dash ++ tm → b ++ d ≡ dash ++ td → y
    ++ (a ++ (m ++ (b ++ (d ++ (nl ++ []))))) ≡ y ++ dash ++ tm ++ dash ++ td ++ nl
date_pieces y m d a b tm td nl dash e f =
    let last : b ++ (d ++ (nl ++ [])) ≡ dash ++ (td ++ nl) = sym (append_assoc b d (nl ++ []))
    ∙ ap (λ s. s ++ (nl ++ [])) f ∙ append_assoc dash td (nl ++ []) ∙ ap (λ s. dash ++ (td ++ s)) (append-nil nl) in
    let middle : a ++ (m ++ (dash ++ (td ++ nl))) ≡ dash ++ (tm ++ (dash ++ (td ++ nl))) =
    sym (append_assoc a m (dash ++ (td ++ nl))) ∙ ap (λ s. s ++ (dash ++ (td ++ nl))) e
    ∙ append_assoc dash tm (dash ++ (td ++ nl)) in
    let whole : y ++ dash ++ tm ++ dash ++ td ++ nl ≡ y ++ (dash ++ (tm ++ (dash ++ (td ++ nl)))) = simp append_assoc in
    ap (λ s. y ++ (a ++ (m ++ s))) last ∙ ap (λ s. y ++ s) middle ∙ sym whole

-- the parts of a date fit their types
pub year_fits : (d : Date) (z : ℤ) → z ≡ d.year → FitsSigned w16 z
year_fits d z e = let range = d.year_in in omega (arith, signed_arith)

pub month_fits : (d : Date) (z : ℤ) → z ≡ pos d.month → FitsSigned w8 z
month_fits d z e = let range = d.month_in in omega (arith, signed_arith)

pub day_fits : (d : Date) (z : ℤ) → z ≡ pos d.day → FitsSigned w8 z
day_fits d z e = let range = d.day_in in let most = days_in_month_bounds d.year d.month in omega (arith, signed_arith)
