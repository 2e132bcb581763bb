-- The first place at which two lists side by side pass a test.
use Rattle.std.proofs.Common.{◌≡◌, suc, Bool, List, [], ◌∷◌, map, length, cond, refl, ap, not, ◌+◌}
use Rattle.std.specs.List.{zip, prefix_len, position}

place-map : {A B C : Type 0} (t : A → C → Bool) (f : B → C) (xs : List A) (ys : List B)
    → prefix_len (λ p. not (t p.0 (f p.1))) (zip xs ys) ≡ prefix_len (λ p. not (t p.0 p.1)) (zip xs (map f ys))
place-map t f [] ys = refl
place-map t f (x ∷ xs) [] = refl
place-map t f (x ∷ xs) (y ∷ ys) = ap (λ n. cond (not (t x (f y))) (1 + n) 0) (place-map t f xs ys)

length-zip_map : {A B C : Type 0} (f : B → C) (xs : List A) (ys : List B) → length (zip xs ys) ≡ length (zip xs (map f ys))
length-zip_map f [] ys = refl
length-zip_map f (x ∷ xs) [] = refl
length-zip_map f (x ∷ xs) (y ∷ ys) = ap suc (length-zip_map f xs ys)

-- the elements of the second list may be viewed before
pub position-zip_map : {A B C : Type 0} (t : A → C → Bool) (f : B → C) (xs : List A) (ys : List B)
    → position (λ p. t p.0 (f p.1)) (zip xs ys) ≡ position (λ p. t p.0 p.1) (zip xs (map f ys))
position-zip_map t f xs ys = cc (place-map t f xs ys, length-zip_map f xs ys)
