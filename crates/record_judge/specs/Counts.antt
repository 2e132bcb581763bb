-- Counts of numbers.
use Rattle.std.specs.Prelude.{ℕ, ◌+◌, Bool, List, [], ◌∷◌, unwrap_or, if◌then◌else◌, ◌==◌}
use Rattle.std.specs.Ordering.{nat_cmp}
use Rattle.std.specs.BTreeMap.{get}
use Rattle.record_judge.specs.declared.counts.Counts.{Counts}

-- the number of elements that pass
abbrev pub tally : {X : Type 0} → (X → Bool) → List X → ℕ
tally p [] = 0
tally p (x ∷ xs) = (if p x then 1 else 0) + tally p xs

-- how often a number was counted
abbrev pub count_at : Counts → ℕ → ℕ
count_at c n = unwrap_or (get nat_cmp c.counts n) 0

-- `by` at one number, and 0 at all others
abbrev pub only_at : ℕ → ℕ → ℕ → ℕ
only_at number by n = if n == number then by else 0
