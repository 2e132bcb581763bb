-- Lists that are compared pair by pair.
use Rattle.std.proofs.Common.{◌≡◌, ℕ, ◌+◌, ◌<◌, ◌≤◌, Bool, true, false, ◌&&◌, List, [], ◌∷◌, map, length, drop, get_or, refl, arith, inl, inr}
use Rattle.std.proofs.lemmas.Bool.{cases_Bool}
use Rattle.std.proofs.lemmas.List.{drop_more, drop_all}
use Rattle.std.specs.Bool.{Decides}
use Rattle.std.specs.Cmp.Lexicographic.{pointwise}

-- lists that are equal pair by pair have the same length
pub pairs-length : {A B C : Type 0} (f : A → C) (g : B → C) (E : C → C → Bool) (xs : List A) (ys : List B)
    → pointwise E (map f xs) (map g ys) ≡ true → length xs ≡ length ys
pairs-length f g E [] [] e = refl
pairs-length f g E [] (y ∷ ys) e = absurd (cc)
pairs-length f g E (x ∷ xs) [] e = absurd (cc)
pairs-length f g E (x ∷ xs) (y ∷ ys) e = elim (cases_Bool (E (f x) (g y))) [
  | inl is ↦ let rest = pairs-length f g E xs ys (rw is at e) in omega arith
  | inr other ↦ let k : false ≡ true = rw other at e in absurd (cc)
]

pub pairs-more : {A B C : Type 0} (f : A → C) (g : B → C) (E : C → C
    → Bool) (xs : List A) (ys : List B) (i : ℕ) (a : A) (b : B) → i < length xs → i < length ys
    → pointwise E (map f (drop i xs)) (map g (drop i ys))
    ≡ (E (f (get_or xs i a)) (g (get_or ys i b)) && pointwise E (map f (drop (i + 1) xs)) (map g (drop (i + 1) ys)))
pairs-more f g E xs ys i a b h k = λ j. pointwise E (map f (drop_more xs i a h j)) (map g (drop_more ys i b k j))

pub pairs-end : {A B C : Type 0} (f : A → C) (g : B → C) (E : C → C → Bool) (xs : List A) (ys : List B) (i : ℕ)
    → length xs ≤ i → length ys ≤ i → pointwise E (map f (drop i xs)) (map g (drop i ys)) ≡ true
pairs-end f g E xs ys i h k = λ j. pointwise E (map f (drop_all i xs h j)) (map g (drop_all i ys k j))

head_is : {C : Type 0} (x y : C) (b : Bool) → (b ≡ true → x ≡ y) → (xs ys : List C) → (r : Bool) → (r ≡ true → xs ≡ ys)
    → (b && r) ≡ true → x ∷ xs ≡ y ∷ ys
head_is x y true one xs ys r rest e = λ i. one refl i ∷ rest e i
head_is x y false one xs ys r rest e = absurd (cc)

-- a test that decides whether pairs are equal decides it for the lists
pub pairs-decide : {A B C : Type 0} (f : A → C) (g : B → C) (E : C → C → Bool)
    → ((a : A) (b : B) → Decides (E (f a) (g b)) (f a ≡ g b)) → (xs : List A) (ys : List B)
    → Decides (pointwise E (map f xs) (map g ys)) (map f xs ≡ map g ys)
pairs-decide f g E tells [] [] = (λ _. refl, λ _. refl)
pairs-decide f g E tells [] (y ∷ ys) = (λ e. absurd (cc), λ e. absurd (cc))
pairs-decide f g E tells (x ∷ xs) [] = (λ e. absurd (cc), λ e. absurd (cc))
pairs-decide f g E tells (x ∷ xs) (y ∷ ys) =
    let rest = pairs-decide f g E tells xs ys in (
      λ e. head_is (f x) (g y) (E (f x) (g y)) (tells x y).0 (map f xs) (map g ys) (pointwise E (map f xs) (map g ys)) rest.0 e,
      λ e. let one : f x ≡ g y = cc in let more : map f xs ≡ map g ys = cc in rw ((tells x y).1 one, rest.1 more) refl,
    )
