-- Elements that are taken from a list.
use Rattle.std.proofs.Common.{◌≡◌, ◌<◌, ◌+◌, ◌-◌, ◌==◌, ℕ, zero, suc, Bool, true, false, not, cond, List, [], ◌∷◌, ◌++◌, filter, length, take, drop}
use Rattle.std.proofs.Common.{Option, Some, None, option_map, refl, sym, ap, subst, ◌∙◌, arith}
use Rattle.std.specs.Prelude.{slice_get}
use Rattle.record_judge.specs.Counts.{tally}

-- the element at the place passes
abbrev pub StandsAt : {X : Type 0} → (X → Bool) → ℕ → List X → Type 0
StandsAt p i xs = option_map p (slice_get xs i) ≡ Some true

-- those that do not pass
abbrev pub others : {X : Type 0} → (X → Bool) → List X → List X
others p xs = filter (λ x. not (p x)) xs

pub within : {X : Type 0} (p : X → Bool) (i : ℕ) (xs : List X) → option_map p (slice_get xs i) ≡ Some true → i < length xs
within p i [] at = absurd (let x = at in cc)
within p zero (x ∷ xs) at = omega arith
within p (suc i) (x ∷ xs) at = let h = within p i xs at in omega (arith, h)

none_here : {X : Type 0} (p : X → Bool) (xs : List X) → tally p xs ≡ 0 → xs ≡ others p xs
none_here p [] h = refl
none_here p (x ∷ xs) h = go (p x) h (none_here p xs)
  where
    go : (b : Bool) → cond {A = ℕ} b 1 0 + tally p xs ≡ 0 → (tally p xs ≡ 0 → xs ≡ others p xs)
        → x ∷ xs ≡ cond (not b) (x ∷ others p xs) (others p xs)
    go true e more = let k : 1 + tally p xs ≡ 0 = e in absurd (omega (arith, k))
    go false e more = let k : 0 + tally p xs ≡ 0 = e in ap (λ l. x ∷ l) (more (omega (arith, k)))

some_there : {X : Type 0} (p : X → Bool) (i : ℕ) (xs : List X) → StandsAt p i xs → tally p xs ≡ 0 → ⊥
some_there p i [] at none = absurd (let x = at in cc)
some_there p zero (x ∷ xs) at none =
    let is : p x ≡ true = cc in
    let k : 1 + tally p xs ≡ 0 = sym (ap (λ b. cond {A = ℕ} b 1 0 + tally p xs) is) ∙ none in
    omega (arith, k)
some_there p (suc i) (x ∷ xs) at none = some_there p i xs at (rest (p x) none)
  where
    rest : (b : Bool) → cond {A = ℕ} b 1 0 + tally p xs ≡ 0 → tally p xs ≡ 0
    rest true e = let k : 1 + tally p xs ≡ 0 = e in absurd (omega (arith, k))
    rest false e = let k : 0 + tally p xs ≡ 0 = e in omega (arith, k)

only_here : {X : Type 0} (p : X → Bool) (i : ℕ) (xs : List X) → tally p xs ≡ 1 → StandsAt p i xs → take i xs ++ drop (suc i) xs ≡ others p xs
only_here p i [] one at = absurd (let x = at in cc)
only_here p zero (x ∷ xs) one at =
    let is : p x ≡ true = cc in
    let k : 1 + tally p xs ≡ 1 = sym (ap (λ b. cond {A = ℕ} b 1 0 + tally p xs) is) ∙ one in
    none_here p xs (omega (arith, k)) ∙ sym (ap (λ b. cond (not b) (x ∷ others p xs) (others p xs)) is)
only_here p (suc i) (x ∷ xs) one at = go (p x) one (λ h. only_here p i xs h at)
  where
    go : (b : Bool) → cond {A = ℕ} b 1 0 + tally p xs ≡ 1 → (tally p xs ≡ 1 → take i xs ++ drop (suc i) xs ≡ others p xs)
        → x ∷ (take i xs ++ drop (suc i) xs) ≡ cond (not b) (x ∷ others p xs) (others p xs)
    go true e more = let k : 1 + tally p xs ≡ 1 = e in absurd (some_there p i xs at (omega (arith, k)))
    go false e more = let k : 0 + tally p xs ≡ 1 = e in ap (λ l. x ∷ l) (more (omega (arith, k)))

pub none_left : {X : Type 0} (p : X → Bool) (count : ℕ) (xs : List X) → count ≡ 0 → count ≡ tally p xs → xs ≡ filter (λ x. not (p x)) xs
none_left p count xs none is = none_here p xs (sym is ∙ none)

pub only_left : {X : Type 0} (p : X → Bool) (i count : ℕ) (xs after : List X) → count ≡ 1 → option_map p (slice_get xs i) ≡ Some true
    → after ≡ take i xs ++ drop (i + 1) xs → count ≡ tally p xs → after ≡ filter (λ x. not (p x)) xs
only_left p i count xs after one at is all =
    let next : i + 1 ≡ suc i = omega arith in
    is ∙ ap (λ k. take i xs ++ drop k xs) next ∙ only_here p i xs (sym all ∙ one) at

-- ---- how many are left

-- none of those that are gone
pub none_of : {X : Type 0} (p : X → Bool) (xs : List X) → tally p (others p xs) ≡ 0
none_of p [] = refl
none_of p (x ∷ xs) = go (p x) refl (none_of p xs)
  where
    go : (b : Bool) → p x ≡ b → tally p (others p xs) ≡ 0 → tally p (cond (not b) (x ∷ others p xs) (others p xs)) ≡ 0
    go true is h = h
    go false is h = ap (λ b. cond {A = ℕ} b 1 0 + tally p (others p xs)) is
        ∙ (let k : 0 + tally p (others p xs) ≡ 0 = omega (arith, h) in k)

-- all of those that are apart from them
pub all_of : {X : Type 0} (p q : X → Bool) → ((x : X) → p x ≡ true → q x ≡ false) → (xs : List X) → tally q (others p xs) ≡ tally q xs
all_of p q apart [] = refl
all_of p q apart (x ∷ xs) = go (p x) refl (all_of p q apart xs)
  where
    go : (b : Bool) → p x ≡ b → tally q (others p xs) ≡ tally q xs
        → tally q (cond (not b) (x ∷ others p xs) (others p xs)) ≡ tally q (x ∷ xs)
    go true is h = h ∙ (let k : tally q xs ≡ 0 + tally q xs = omega arith in k)
        ∙ sym (ap (λ b. cond {A = ℕ} b 1 0 + tally q xs) (apart x is))
    go false is h = ap (λ t. cond {A = ℕ} (q x) 1 0 + t) h

-- those that are gone, among others
pub some_of : {X : Type 0} (p q : X → Bool) → ((x : X) → p x ≡ true → q x ≡ true) → (xs : List X)
    → tally q (others p xs) + tally p xs ≡ tally q xs
some_of p q within [] = refl
some_of p q within (x ∷ xs) = go (p x) refl (some_of p q within xs)
  where
    add_one : (a s t u : ℕ) → s + t ≡ u → (a + s) + (0 + t) ≡ a + u
    add_one a s t u h = omega (arith, h)

    go : (b : Bool) → p x ≡ b → tally q (others p xs) + tally p xs ≡ tally q xs
        → tally q (cond (not b) (x ∷ others p xs) (others p xs)) + (cond {A = ℕ} b 1 0 + tally p xs) ≡ tally q (x ∷ xs)
    go true is h =
        (let k : tally q (others p xs) + (1 + tally p xs) ≡ 1 + tally q xs = omega (arith, h) in k)
        ∙ sym (ap (λ b. cond {A = ℕ} b 1 0 + tally q xs) (within x is))
    go false is h = add_one (cond {A = ℕ} (q x) 1 0) (tally q (others p xs)) (tally p xs) (tally q xs) h
