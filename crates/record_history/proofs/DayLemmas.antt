-- The dates of day numbers.
use Rattle.std.proofs.Common.{◌≡◌, ℕ, arith, ℤ, pos, ◌≤ℤ◌, ◌<ℤ◌, FitsSigned, w8, w16, refl, negsuc, unsigned_abs, sym, ap, ◌∙◌, ◌/◌, ◌%◌, ◌++◌}
use Rattle.std.proofs.Common.{List, codes}
use Rattle.std.proofs.lemmas.Int.{by_lt_z}
use Rattle.class_plan.specs.Calendar.{Civil}
use Rattle.class_plan.proofs.CalendarLemmas.{civil_is}
use Rattle.record_history.specs.Civil.{civil_of}
use Rattle.record_history.specs.Lines.{civil_text, at_text, day_text, moment_text, two_digits}
use Rattle.jiff.specs.Words.{epoch_day}
use Rattle.jiff_core.specs.declared.civil.date.Date.{Date}
use Rattle.jiff_core.proofs.SignedLemmas.{signed_arith}
use Rattle.jiff_core.proofs.DateLemmas.{civil as date_civil}
use Rattle.jiff_core.proofs.CalendarLemmas.{days_from_civil-day_count, day_count-lt_year, day_count-epoch, days_in_month_bounds}

before_zero : (d : Date) → d.year <ℤ pos 1970 → epoch_day d <ℤ pos 0
before_zero d lt =
    let below = day_count-lt_year d.year d.month d.day (pos 1970) 1 1 (date_civil d) (omega arith) lt in
    let counted = days_from_civil-day_count d.year d.month d.day in
    let first = day_count-epoch in
    omega (arith, signed_arith)

pub year_from : (d : Date) → pos 0 ≤ℤ epoch_day d → pos 1970 ≤ℤ d.year
year_from d low = by_lt_z d.year (pos 1970) (λ lt. absurd (let x = before_zero d lt in omega (arith, signed_arith))) (λ ge. ge)

-- the parts of a date fit their types
pub year_fits : (d : Date) (z : ℤ) → z ≡ d.year → FitsSigned w16 z
year_fits d z e = let range = d.year_in in omega (arith, signed_arith)

pub month_fits : (d : Date) (z : ℤ) → z ≡ pos d.month → FitsSigned w8 z
month_fits d z e = let range = d.month_in in omega (arith, signed_arith)

pub day_fits : (d : Date) (z : ℤ) → z ≡ pos d.day → FitsSigned w8 z
day_fits d z e = let range = d.day_in in let most = days_in_month_bounds d.year d.month in omega (arith, signed_arith)

pub number_pos : (z : ℤ) → pos 0 ≤ℤ z → z ≡ pos (unsigned_abs z)
number_pos (pos n) h = refl
number_pos (negsuc n) h = absurd (omega (arith, signed_arith))

pub parts_are : (d : Date) (n y m e : ℕ) → epoch_day d ≡ pos n → y ≡ unsigned_abs d.year → m ≡ d.month → e ≡ d.day
    → civil_of n ≡ record { year = y; month = m; day = e }
unfolding civil_of
parts_are d n y m e number year month day =
    let low : pos 0 ≤ℤ epoch_day d = rw number (omega (arith, signed_arith)) in
    civil_is d n (year_from d low) number ∙ (λ i. record { year = sym year i; month = sym month i; day = sym day i })

pub day_digits : (n : ℕ) (c : Civil) → civil_of n ≡ c → day_text n ≡ civil_text c
unfolding civil_of day_text
day_digits n c is = ap civil_text is

-- the time of day, and then the moment
abbrev time_text : ℕ → List ℕ
time_text s = codes "T" ++ two_digits (s / 3600) ++ codes ":" ++ two_digits (s % 3600 / 60) ++ codes ":" ++ two_digits (s % 60) ++ codes "Z"

pub moment_digits : (m : ℕ) (c : Civil) (text : List ℕ) → text ≡ civil_text c → civil_of (m / 86400) ≡ c
    → text ++ time_text (m % 86400) ≡ moment_text m
unfolding civil_of moment_text
moment_digits m c text written is =
    let minutes : m % 86400 % 3600 ≡ m % 3600 = omega arith in
    let seconds : m % 86400 % 60 ≡ m % 60 = omega arith in
    (λ i. written i ++ (codes "T" ++ two_digits (m % 86400 / 3600) ++ codes ":" ++ two_digits (minutes i / 60) ++ codes ":" ++ two_digits (seconds
    i) ++ codes "Z"))
    ∙ ap (λ x. at_text x m) (sym is)
