-- Which volumes are missing in a row.
use Rattle.std.specs.Prelude.{ℕ, zero, suc, max, not, List, [], ◌∷◌, ◌++◌, filter}
use Rattle.record_choice.specs.Disposals.{is_one_of}

-- the numbers from 1 to one
abbrev pub numbers_to : ℕ → List ℕ
numbers_to zero = []
numbers_to (suc n) = numbers_to n ++ suc n ∷ []

-- the greatest of some numbers, and of one more
abbrev pub greatest : ℕ → List ℕ → ℕ
greatest n [] = n
greatest n (m ∷ ms) = greatest (max n m) ms

-- the numbers from 1 to one that are not among some
abbrev pub missing_to : (last : ℕ) (found : List ℕ) → List ℕ
missing_to last found = filter (λ v. not (is_one_of found v)) (numbers_to last)

-- THE MISSING VOLUMES, upwards: not found, and not above the last one that was found or is known to have been begun
abbrev pub missing : (begun : ℕ) (found : List ℕ) → List ℕ
missing begun found = missing_to (greatest begun found) found
