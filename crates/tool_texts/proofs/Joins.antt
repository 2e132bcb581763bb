-- Lists joined by an octet.
use Rattle.std.proofs.Common.{◌≡◌, ◌<◌, ◌≤◌, ◌+◌, ℕ, zero, suc, List, [], ◌∷◌, ◌++◌, length, take, get_or, refl, sym, ap, ◌∙◌, append_assoc, arith}
use Rattle.std.specs.List.{join_with_byte}
use Rattle.std.proofs.lemmas.List.{take_more}

-- one more piece after the first one
pub join_one_more : (c : ℕ) (y x : List ℕ) (xs : List (List ℕ)) → join_with_byte c ((x ∷ xs) ++ y ∷ []) ≡ join_with_byte c (x ∷ xs) ++ (c ∷ y)
join_one_more c y x [] = refl
join_one_more c y x (z ∷ zs) = ap (λ r. x ++ (c ∷ r)) (join_one_more c y z zs) ∙ sym (append_assoc x (c ∷ join_with_byte c (z ∷ zs)) (c ∷ y))

pub join_start : (c : ℕ) (xs : List (List ℕ)) (k : ℕ) (d : List ℕ) → k ≤ 0 → k < length xs
    → join_with_byte c (take (k + 1) xs) ≡ join_with_byte c (take k xs) ++ get_or xs k d
join_start c [] k d none lt = absurd (omega (arith, lt))
join_start c (x ∷ xs) zero d none lt = refl
join_start c (x ∷ xs) (suc k) d none lt = absurd (omega (arith, none))

pub join_more : (c : ℕ) (xs : List (List ℕ)) (k : ℕ) (d : List ℕ) → 0 < k → k < length xs
    → join_with_byte c (take (k + 1) xs) ≡ join_with_byte c (take k xs) ++ (c ∷ get_or xs k d)
join_more c [] k d some lt = absurd (omega (arith, lt))
join_more c (x ∷ xs) zero d some lt = absurd (omega (arith, some))
join_more c (x ∷ xs) (suc k) d some lt = ap (join_with_byte c) (take_more (x ∷ xs) (suc k) d lt) ∙ join_one_more c (get_or xs k d) x (take k xs)
