-- The texts of days and moments are read again.
use Rattle.std.proofs.Common.{◌≡◌, ℕ, ◌+◌, ◌-◌, ◌*◌, ◌/◌, ◌%◌, ◌≤◌, ◌<◌, ◌==◌, Bool, true, not, ◌&&◌, refl, sym, ap, ◌∙◌, arith, pos, Some, take}
use Rattle.std.specs.Prelude.{if◌then◌else◌, nat_le}
use Rattle.std.proofs.lemmas.Bool.Decides.{nat_tests}
use Rattle.jiff.specs.Words.{days_in_month}
use Rattle.class_plan.specs.Calendar.{Civil}
use Rattle.record_history.specs.Civil.{civil_of}
use Rattle.record_history.specs.Lines.{civil_text, day_text, at_text, moment_text}
use Rattle.record_history.specs.Reading.{civil_at, day_of, is_real, moment_of, moment_with, moment_within, real_day}
use Rattle.record_history.proofs.DayLemmas.{day_digits}
use Rattle.record_history.proofs.Counted.{dated, IsDated}
use Rattle.record_history.proofs.Again.{HasNone}

fits : (a b : ℕ) → a ≤ b → nat_le a b ≡ true
fits a b h = grind (arith, nat_tests)

all_six : (a b c d e f : Bool) → a ≡ true → b ≡ true → c ≡ true → d ≡ true → e ≡ true → f ≡ true → (a && b && c && d && e && f) ≡ true
all_six a b c d e f ea eb ec ed ee ef = λ i. ea i && eb i && ec i && ed i && ee i && ef i

real : (n : ℕ) (c : Civil) → IsDated n c → is_real c ≡ true
real n c h =
    all_six (nat_le 1970 c.year) (nat_le c.year 9999) (nat_le 1 c.month) (nat_le c.month 12) (nat_le 1 c.day)
    (nat_le c.day (days_in_month (pos c.year) c.month)) (fits 1970 c.year h.year.0) (fits c.year 9999 h.year.1) (fits 1 c.month h.month.0)
    (fits c.month 12 h.month.1) (fits 1 c.day h.day.0) (fits c.day (days_in_month (pos c.year) c.month) h.day.1)

real_again : (n : ℕ) (c : Civil) → IsDated n c → real_day c ≡ Some n
unfolding real_day
real_again n c h = rw (real n c h) (ap Some h.number)

dig : (n : ℕ) → n < 100 → (48 + n / 10 - 48) * 10 + (48 + n % 10 - 48) ≡ n
dig n h = omega arith

civil_read : (c : Civil) → c.year < 10000 → c.month < 100 → c.day < 100 → civil_at (civil_text c) ≡ c
civil_read c y m d =
    let year : ((48 + c.year / 100 / 10 - 48) * 10 + (48 + c.year / 100 % 10 - 48)) * 100 + ((48 + c.year % 100 / 10 - 48) * 10 + (48 + c.year % 100
    % 10 - 48)) ≡ c.year =
    omega (arith, dig (c.year / 100) (omega arith), dig (c.year % 100) (omega arith)) in
    λ i. record { year = year i; month = dig c.month m i; day = dig c.day d i }

date_read : (c : Civil) → day_of (civil_text c) ≡ real_day (civil_at (civil_text c))
unfolding day_of
date_read c = refl

most : (y : ℕ) (m d : ℕ) → d ≤ days_in_month (pos y) m → d < 100
most y m d h = grind arith

civil_again : (n : ℕ) → n ≤ 2932896 → day_of (civil_text (civil_of n)) ≡ Some n
civil_again n h =
    let d = dated n h in
    let c = civil_of n in
    date_read c ∙ ap real_day (civil_read c (let x = d.year.1 in omega arith) (let x = d.month.1 in omega arith) (most c.year c.month c.day d.day.1))
    ∙ real_again n c d

pub day_word : (n : ℕ) → n ≤ 2932896 → day_of (day_text n) ≡ Some n
day_word n h = ap day_of (day_digits n (civil_of n) refl) ∙ civil_again n h

moment_at : (m : ℕ) → moment_text m ≡ at_text (civil_of (m / 86400)) m
unfolding civil_of moment_text
moment_at m = refl

moment_read : (c : Civil) (m day : ℕ) → day_of (civil_text c) ≡ Some day → moment_of (at_text c m) ≡ moment_within (moment_with (at_text c m) day)
unfolding moment_of
moment_read c m day is = rw is refl

moment_adds : (c : Civil) (m : ℕ) → moment_with (at_text c m) (m / 86400) ≡ m
moment_adds c m =
    let hours = dig (m % 86400 / 3600) (omega arith) in
    let minutes = dig (m % 3600 / 60) (omega arith) in
    let seconds = dig (m % 60) (omega arith) in
    (λ i. m / 86400 * 86400 + hours i * 3600 + minutes i * 60 + seconds i) ∙ omega arith

within : (m : ℕ) → m ≤ 253402300799 → moment_within m ≡ Some m
within m h = rw (fits m 253402300799 h) refl

pub moment_word : (m : ℕ) → m ≤ 253402300799 → moment_of (moment_text m) ≡ Some m
moment_word m h =
    let c = civil_of (m / 86400) in
    ap moment_of (moment_at m) ∙ moment_read c m (m / 86400) (civil_again (m / 86400) (omega (arith, h)))
    ∙ ap moment_within (moment_adds c m) ∙ within m h

not_space : (n : ℕ) → not ((48 + n) == 32) ≡ true
not_space n = grind (arith, nat_tests)

civil_plain : (c : Civil) → HasNone 32 (civil_text c)
civil_plain c =
    rw (
      not_space (c.year / 100 / 10),
      not_space (c.year / 100 % 10),
      not_space (c.year % 100 / 10),
      not_space (c.year % 100 % 10),
      not_space (c.month / 10),
      not_space (c.month % 10),
      not_space (c.day / 10),
      not_space (c.day % 10),
    ) refl

pub day_plain : (n : ℕ) → HasNone 32 (day_text n)
day_plain n = rw (day_digits n (civil_of n) refl) (civil_plain (civil_of n))

at_plain : (c : Civil) (m : ℕ) → HasNone 32 (at_text c m)
at_plain c m =
    rw (
      not_space (c.year / 100 / 10),
      not_space (c.year / 100 % 10),
      not_space (c.year % 100 / 10),
      not_space (c.year % 100 % 10),
      not_space (c.month / 10),
      not_space (c.month % 10),
      not_space (c.day / 10),
      not_space (c.day % 10),
      not_space (m % 86400 / 3600 / 10),
      not_space (m % 86400 / 3600 % 10),
      not_space (m % 3600 / 60 / 10),
      not_space (m % 3600 / 60 % 10),
      not_space (m % 60 / 10),
      not_space (m % 60 % 10),
    ) refl

pub moment_plain : (m : ℕ) → HasNone 32 (moment_text m)
moment_plain m = rw (moment_at m) (at_plain (civil_of (m / 86400)) m)
