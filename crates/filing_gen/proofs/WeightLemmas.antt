-- The weight of the tests of a list.
use Rattle.std.proofs.Common.{◌≡◌, ℕ, ◌+◌, List, [], ◌∷◌, refl, ap}
use Rattle.sieve_syntax.specs.Tree.{TestTree, listed_tests}
use Rattle.sieve_syntax.specs.View.{row_of}
use Rattle.sieve_meaning.specs.Reading.{test_in, tests_in, row_in}
use Rattle.sieve_meaning.specs.Weight.{test_weight, tests_weight}

abbrev pub sum_of : List TestTree → ℕ
sum_of [] = 0
sum_of (t ∷ ts) = test_weight (test_in t) + sum_of ts

weight-row : (ts : List TestTree) → tests_weight (row_in (row_of ts)) ≡ sum_of ts
weight-row [] = refl
weight-row (t ∷ ts) = ap (λ n. test_weight (test_in t) + n) (weight-row ts)

pub weight-listed : (t : TestTree) (ts : List TestTree) → tests_weight (tests_in (listed_tests t (row_of ts))) ≡ test_weight (test_in t) + sum_of ts
weight-listed t ts = ap (λ n. test_weight (test_in t) + n) (weight-row ts)
