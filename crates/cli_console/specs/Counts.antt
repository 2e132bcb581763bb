-- Counts, up to the greatest number of 64 bits.
use Rattle.std.specs.Prelude.{ℕ, ◌+◌, ◌-◌, ◌^◌, Bool, if◌then◌else◌, min}

abbrev pub greatest : ℕ
greatest = 2 ^ 64 - 1

-- one more, up to the greatest count
abbrev pub one_more : ℕ → ℕ
one_more n = min (n + 1) greatest

-- ONE MORE WHERE IT IS SO
abbrev pub counted : (is_so : Bool) → ℕ → ℕ
counted is_so n = if is_so then one_more n else n
