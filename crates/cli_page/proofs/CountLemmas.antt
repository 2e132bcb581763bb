-- Counts and sums with one record more.
use Rattle.std.proofs.Common.{◌≡◌, ap, ℕ, Bool, true, false, List, [], ◌∷◌, ◌++◌, ◌+◌, ◌-◌, ◌<◌, length, get_or}
use Rattle.std.proofs.Common.{set, Some, slice_get, arith, count_by, refl, nat_le}
use Rattle.std.proofs.lemmas.Grind.{common_steps}
use Rattle.std.proofs.lemmas.List.Sums.{sum_by_push, sum_by-set}
use Rattle.std.proofs.lemmas.Option.{slice_get_within, get_or_from_slice_get, slice_get_read}
use Rattle.cli_page.specs.Counting.{IsCountOf, counted, is_live, is_kept, is_dated, is_due, one_if}
use Rattle.cli_page.specs.Columns.{in_year, in_years, with_one, first_year, AddsOne}
use Rattle.cli_page.specs.declared.dates.DueDay.{DueDay}
use Rattle.cli_page.specs.declared.counts.Seen.{Seen}
use Rattle.cli_page.specs.declared.counts.Counts.{Counts}
use Rattle.cli_page.specs.declared.years.Year.{Year}

count_one : (p : Seen → Bool) (xs : List Seen) (x : Seen) (n : ℕ) → n ≡ count_by p xs → n + one_if (p x) ≡ count_by p (xs ++ x ∷ [])
count_one p xs x n e = rw (sum_by_push (λ s. one_if (p s)) xs x) (ap (λ (m : ℕ). m + one_if (p x)) e)

-- the counts of some records become those of these and one more
pub counted_one : (day : ℕ) (xs : List Seen) (x : Seen) (old : Counts) → IsCountOf day xs old → IsCountOf day (xs ++ x ∷ []) (counted day old x)
counted_one day xs x old h = record {
  records = grind (arith, common_steps, h.records);
  live = count_one is_live xs x old.live h.live;
  held = count_one is_kept xs x old.held h.held;
  destroyed = count_one (λ s. s.is_destroyed) xs x old.destroyed h.destroyed;
  dated = count_one is_dated xs x old.dated h.dated;
  due = count_one (is_due day) xs x old.due h.due;
}

one_more : (b : Bool) (y : Year) → in_year (with_one b y) ≡ in_year y + 1
one_more true y = omega arith
one_more false y = omega arith

-- the years with one record more in the year at a place
pub years_one : (years : List Year) (i : ℕ) (y : Year) (b : Bool) → slice_get years i ≡ Some y
    → in_years (set years i (with_one b y)) ≡ in_years years + 1
years_one years i y b at =
    let within = slice_get_within years i y at in
    let e = get_or_from_slice_get years i y y at in
    let s = sum_by-set in_year years i (with_one b y) y within in
    let s' = rw e at s in
    omega (arith, s', one_more b y)

pub adds_one : (day : ℕ) (due : DueDay) (old : List Year) (place : ℕ) (year new : Year) → place ≡ due.year - first_year
    → place < length old → year ≡ get_or old place year → new ≡ with_one (nat_le due.day day) year → AddsOne day due old (set old place new)
adds_one day due old place year new at within read with =
    let is : slice_get old place ≡ Some year = slice_get_read old (length old) place year refl within read in
    let was : slice_get old (due.year - first_year) ≡ Some year = rw (← at) is in
    record {
      year = year;
      was = was;
      is = rw (at, with) refl;
      sum = rw with (years_one old place year (nat_le due.day day) is);
    }
