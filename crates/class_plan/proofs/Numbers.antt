-- Counts, digit by digit.
use Rattle.std.proofs.Common.{◌≡◌, ℕ, ◌+◌, ◌-◌, ◌*◌, ◌<◌, nat_le, false, ◌&&◌, List, [], ◌∷◌, length, drop, get_or, None, arith, inl, inr}
use Rattle.std.proofs.lemmas.List.{drop_more}
use Rattle.std.proofs.lemmas.Bool.{cases_Bool}
use Rattle.class_plan.specs.Texts.{count_from, IsLargeOrNone}

pub number-bad : (cs : List ℕ) (i n : ℕ) → i < length cs → (nat_le 48 (get_or cs i 0) && nat_le (get_or cs i 0) 57)
    ≡ false → count_from n (drop i cs) ≡ None
number-bad cs i n h d = rw (drop_more cs i 0 h, d)

pub number-large : (n : ℕ) (cs : List ℕ) → 366000 < n → IsLargeOrNone (count_from n cs)
number-large n [] h = h
number-large n (c ∷ cs) h = elim (cases_Bool (nat_le 48 c && nat_le c 57)) [
  | inl is ↦ rw is (number-large (n * 10 + (c - 48)) cs (omega arith))
  | inr not ↦ rw not tt
]
