-- Two lists that are the same up to a place.
use Rattle.std.proofs.Common.{◌≡◌, ℕ, zero, suc, ◌+◌, List, [], ◌∷◌, take, refl, ap, ◌∙◌, add-one}
use Rattle.std.specs.List.{slice_get}

head_is : {X : Type 0} (x y : X) (xs ys : List X) → x ∷ xs ≡ y ∷ ys → x ≡ y
head_is x y xs ys e = cc

tail_is : {X : Type 0} (x y : X) (xs ys : List X) → x ∷ xs ≡ y ∷ ys → xs ≡ ys
tail_is x y xs ys e = cc

same_further : {X : Type 0} (n : ℕ) (xs ys : List X) → take n xs ≡ take n ys → slice_get xs n ≡ slice_get ys n
    → take (suc n) xs ≡ take (suc n) ys
same_further zero [] [] before there = refl
same_further zero [] (y ∷ ys) before there = absurd cc
same_further zero (x ∷ xs) [] before there = absurd cc
same_further zero (x ∷ xs) (y ∷ ys) before there = let same : x ≡ y = cc in ap (λ z. z ∷ []) same
same_further (suc n) [] [] before there = refl
same_further (suc n) [] (y ∷ ys) before there = absurd cc
same_further (suc n) (x ∷ xs) [] before there = absurd cc
same_further (suc n) (x ∷ xs) (y ∷ ys) before there =
    let more = same_further n xs ys (tail_is x y (take n xs) (take n ys) before) there in
    ap (λ z. z ∷ take (suc n) xs) (head_is x y (take n xs) (take n ys) before) ∙ ap (λ zs. y ∷ zs) more

-- they are the same one place further, where they have the same there
pub take_more : {X : Type 0} (n : ℕ) (xs ys : List X) → take n xs ≡ take n ys → slice_get xs n ≡ slice_get ys n
    → take (n + 1) xs ≡ take (n + 1) ys
take_more n xs ys before there = rw add-one (same_further n xs ys before there)
