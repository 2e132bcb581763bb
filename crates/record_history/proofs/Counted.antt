-- A day number has a date that the calendar has, and that date has the number.
use Rattle.std.proofs.Common.{◌≡◌, ℕ, zero, suc, ◌+◌, ◌-◌, ◌≤◌, ◌<◌, nat_lt, true, false, Bool, refl, sym, ap, subst, ◌∙◌, arith, pos, inl, inr}
use Rattle.std.proofs.Common.{◌+ℤ◌, unsigned_abs}
use Rattle.std.proofs.lemmas.Bool.{cases_Bool}
use Rattle.std.proofs.lemmas.Bool.Decides.{nat_tests}
use Rattle.jiff.specs.Words.{days_in_month, days_in_year}
use Rattle.jiff_core.specs.Calendar.{day_count, days_from_civil, IsYear}
use Rattle.jiff_core.proofs.SignedLemmas.{signed_arith}
use Rattle.jiff_core.proofs.CalendarLemmas.{day_count-epoch, days_from_civil-day_count, day_count-day, day_count-next_month, day_count-next_year}
use Rattle.jiff_core.proofs.CalendarLemmas.{day_count-last_of_year, day_count-end}
use Rattle.class_plan.specs.Calendar.{Civil, civil, in_year, from_year, number_of}
use Rattle.record_history.specs.Civil.{civil_of}

-- the date is one of the calendar, of this year, and so many days after the first of a month
record IsAfterFirst (y m n : ℕ) (c : Civil) : Type 0 where
  year : c.year ≡ y
  month : (1 ≤ c.month) × (c.month ≤ 12)
  day : (1 ≤ c.day) × (c.day ≤ days_in_month (pos c.year) c.month)
  count : day_count (pos c.year) c.month c.day ≡ day_count (pos y) m 1 + n

here : (y m n : ℕ) → 1 ≤ m → m ≤ 12 → n < days_in_month (pos y) m → IsAfterFirst y m n (record { year = y; month = m; day = n + 1 })
here y m n low high less = record {
  year = refl;
  month = (low, high);
  day = (omega arith, omega arith);
  count = omega (arith, day_count-day (pos y) m (n + 1) 1 (omega arith) (omega arith));
}

carried : (y m r n dim : ℕ) (c : Civil) → day_count (pos y) (m + 1) 1 ≡ day_count (pos y) m 1 + dim → r + dim ≡ n
    → IsAfterFirst y (m + 1) r c → IsAfterFirst y m n c
carried y m r n dim c next left h = record { year = h.year; month = h.month; day = h.day; count = h.count ∙ omega arith }

december : (y m : ℕ) → m + 0 ≡ 12 → m ≡ 12
december y m h = omega arith

in_year_counts : (k y m n : ℕ) → IsYear (pos y) → 1 ≤ m → m + k ≡ 12 → day_count (pos y) m 1 + n < day_count (pos y) 12 1 + 31
    → IsAfterFirst y m n (in_year k y m n)
in_year_counts zero y m n year low last below =
    let is : m ≡ 12 = omega arith in
    let P : ℕ → Type 0 = λ k. day_count (pos y) k 1 + n < day_count (pos y) 12 1 + 31 → n < days_in_month (pos y) k in
    here y m n low (omega arith) (subst P (sym is) (λ h. omega arith) below)
in_year_counts (suc k) y m n year low last below = elim (cases_Bool (nat_lt n (days_in_month (pos y) m))) [
  | inl is ↦ rw is (here y m n low (omega arith) (grind (arith, nat_tests)))
  | inr past ↦
      let next = day_count-next_month (pos y) m low in
      let more : days_in_month (pos y) m ≤ n = grind (arith, nat_tests) in
      rw past (carried y m (n - days_in_month (pos y) m) n (days_in_month (pos y) m) _ next (omega arith)
      (in_year_counts k y (m + 1) (n - days_in_month (pos y) m) year (omega arith) (omega arith) (omega arith)))
]

record IsAfterYear (y n : ℕ) (c : Civil) : Type 0 where
  year : (y ≤ c.year) × (c.year ≤ 9999)
  month : (1 ≤ c.month) × (c.month ≤ 12)
  day : (1 ≤ c.day) × (c.day ≤ days_in_month (pos c.year) c.month)
  count : day_count (pos c.year) c.month c.day ≡ day_count (pos y) 1 1 + n

of_year : (y n : ℕ) (c : Civil) → y ≤ 9999 → IsAfterFirst y 1 n c → IsAfterYear y n c
of_year y n c top h = record { year = (omega (arith, h.year), omega (arith, h.year)); month = h.month; day = h.day; count = h.count }

later_year : (y r n dim : ℕ) (c : Civil) → day_count (pos (y + 1)) 1 1 ≡ day_count (pos y) 1 1 + dim → r + dim ≡ n
    → IsAfterYear (y + 1) r c → IsAfterYear y n c
later_year y r n dim c next left h = record {
  year = (let low = h.year.0 in omega arith, h.year.1);
  month = h.month;
  day = h.day;
  count = h.count ∙
      omega arith;
}

is_year : (y : ℕ) → 1970 ≤ y → y ≤ 9999 → IsYear (pos y)
is_year y low high = (omega (arith, signed_arith), omega (arith, signed_arith))

one_year : (y n : ℕ) → 1970 ≤ y → y ≤ 9999 → n < days_in_year (pos y) → IsAfterYear y n (in_year 11 y 1 n)
one_year y n low high less =
    let next = day_count-next_year (pos y) (pos (y + 1)) (omega (arith, signed_arith)) (omega (arith, signed_arith)) in
    let last = day_count-last_of_year (pos y) in
    let first = day_count-day (pos y) 12 31 1 (omega arith) (omega arith) in
    of_year y n _ high (in_year_counts 11 y 1 n (is_year y low high) (omega arith) refl (omega (arith, next, last, first, less)))

from_year_counts : (k y n : ℕ) → 1970 ≤ y → y + k ≡ 9999 → day_count (pos y) 1 1 + n < day_count (pos 10000) 1 1
    → IsAfterYear y n (from_year k y n)
from_year_counts zero y n low last below =
    let is : y ≡ 9999 = omega arith in
    let next = day_count-next_year (pos 9999) (pos 10000) (omega (arith, signed_arith)) (omega (arith, signed_arith)) in
    let P : ℕ → Type 0 = λ k. day_count (pos k) 1 1 + n < day_count (pos 10000) 1 1 → n < days_in_year (pos k) in
    one_year y n low (omega arith) (subst P (sym is) (λ h. omega (arith, next, h)) below)
from_year_counts (suc k) y n low last below = elim (cases_Bool (nat_lt n (days_in_year (pos y)))) [
  | inl is ↦ rw is (one_year y n low (omega arith) (grind (arith, nat_tests)))
  | inr past ↦
      let next = day_count-next_year (pos y) (pos (y + 1)) (omega (arith, signed_arith)) (omega (arith, signed_arith)) in
      let more : days_in_year (pos y) ≤ n = grind (arith, nat_tests) in
      rw past (later_year y (n - days_in_year (pos y)) n (days_in_year (pos y)) _ next (omega arith)
      (from_year_counts k (y + 1) (n - days_in_year (pos y)) (omega arith) (omega arith) (omega (arith, next, more, below))))
]

-- the date of a day number
pub record IsDated (n : ℕ) (c : Civil) : Type 0 where
  pub year : (1970 ≤ c.year) × (c.year ≤ 9999)
  pub month : (1 ≤ c.month) × (c.month ≤ 12)
  pub day : (1 ≤ c.day) × (c.day ≤ days_in_month (pos c.year) c.month)
  pub number : number_of c ≡ n

number_is : (c : Civil) (n : ℕ) → day_count (pos c.year) c.month c.day ≡ day_count (pos 1970) 1 1 + n → number_of c ≡ n
number_is c n h =
    let counted = days_from_civil-day_count (pos c.year) c.month c.day in
    let is : days_from_civil (pos c.year) c.month c.day ≡ pos n = omega (arith, signed_arith, counted, h, day_count-epoch) in
    ap unsigned_abs is

pub dated : (n : ℕ) → n ≤ 2932896 → IsDated n (civil_of n)
unfolding civil_of
dated n h =
    let after = from_year_counts 8029 1970 n (omega arith) refl (omega (arith, h, day_count-epoch, day_count-end)) in
    record { year = after.year; month = after.month; day = after.day; number = number_is _ n after.count }
