-- Where elements of a list are found when others follow, or when some are left out.
use Rattle.std.proofs.Common.{◌≡◌, ℕ, zero, suc, ◌+◌, ◌≤◌, Bool, true, false, List, [], ◌∷◌, ◌++◌, length, Some, None}
use Rattle.std.proofs.Common.{slice_get, filter, find, refl, ap, subst, ◌∙◌, arith, inl, inr, unwrap_or}
use Rattle.std.specs.List.{AllZip, position_from}
use Rattle.std.specs.Option.{option_or}
use Rattle.std.proofs.lemmas.Bool.{cases_Bool}
use Rattle.std.proofs.lemmas.List.Folds.{find-append}
use Rattle.sqlite_rules.specs.Lists.{Has}

same_some : {X : Type 0} (a b : X) → Some a ≡ Some b → a ≡ b
same_some a b e = ap (λ o. unwrap_or o a) e

pub slice_get_longer : {X : Type 0} (xs ys : List X) (k : ℕ) (x : X) → slice_get xs k ≡ Some x → slice_get (xs ++ ys) k ≡ Some x
slice_get_longer [] ys k x h = absurd cc
slice_get_longer (y ∷ xs) ys zero x h = h
slice_get_longer (y ∷ xs) ys (suc k) x h = slice_get_longer xs ys k x h

pub slice_get_last : {X : Type 0} (xs : List X) (x : X) → slice_get (xs ++ x ∷ []) (length xs) ≡ Some x
slice_get_last [] x = refl
slice_get_last (y ∷ xs) x = slice_get_last xs x

pub zip_at : {A B : Type 0} (R : A → B → Type 0) (xs : List A) (ys : List B) (k : ℕ) (y : B) → AllZip R xs ys
    → slice_get ys k ≡ Some y → (x : A) × R x y
zip_at R xs [] k y all h = absurd cc
zip_at R [] (b ∷ ys) k y all h = absurd all
zip_at R (a ∷ xs) (b ∷ ys) zero y all h = (a, subst (R a) (same_some b y h) all.0)
zip_at R (a ∷ xs) (b ∷ ys) (suc k) y all h = zip_at R xs ys k y all.1 h

module _ {X : Type 0} (p : X → Bool) where
  pub find_longer : (xs ys : List X) (x : X) → find p xs ≡ Some x → find p (xs ++ ys) ≡ Some x
  find_longer xs ys x h = find-append p xs ys ∙ ap (λ o. option_or o (find p ys)) h

  pub find_last : (xs : List X) (x : X) → ((y : X) → Has xs y → p y ≡ false) → p x ≡ true → find p (xs ++ x ∷ []) ≡ Some x
  find_last [] x none is = rw is refl
  find_last (y ∷ xs) x none is = rw (none y (inl refl)) (find_last xs x (λ z has. none z (inr has)) is)

  pub placed_longer : (xs ys : List X) (from k : ℕ) → position_from p from xs ≡ Some k → position_from p from (xs ++ ys) ≡ Some k
  placed_longer [] ys from k h = absurd cc
  placed_longer (x ∷ xs) ys from k h = elim (cases_Bool (p x)) [
    | inl is ↦ rw is (rw is at h)
    | inr not ↦ rw not (placed_longer xs ys (from + 1) k (rw not at h))
  ]

  pub placed_last : (xs : List X) (x : X) (from : ℕ) → position_from p from xs ≡ None → p x ≡ true
      → position_from p from (xs ++ x ∷ []) ≡ Some (from + length xs)
  placed_last [] x from none is = rw is (ap (λ n. Some n) (omega arith))
  placed_last (y ∷ xs) x from none is = elim (cases_Bool (p y)) [
    | inl is_y ↦ absurd (let e = rw is_y at none in cc)
    | inr not ↦ rw not (placed_last xs x (from + 1) (rw not at none) is ∙ ap (λ n. Some n) (omega arith))
  ]

  placed_past : (xs : List X) (from k : ℕ) → position_from p from xs ≡ Some k → from ≤ k
  placed_past [] from k h = absurd cc
  placed_past (x ∷ xs) from k h = elim (cases_Bool (p x)) [
    | inl is ↦ omega (arith, same_some from k (rw is at h))
    | inr not ↦ omega (arith, placed_past xs (from + 1) k (rw not at h))
  ]

  abbrev StaysPlaced : (q : X → Bool) → List X → X → ℕ → Type 0
  StaysPlaced q xs x to = (j : ℕ) × (position_from p to (filter q xs) ≡ Some (to + j)) × (slice_get (filter q xs) j ≡ Some x)

  within_first : (q : X → Bool) (y : X) (xs : List X) (x : X) (from to k : ℕ) → p y ≡ true → q x ≡ true → from ≡ from + k
      → slice_get (y ∷ xs) k ≡ Some x → StaysPlaced q (y ∷ xs) x to
  within_first q y xs x from to zero is stays same got =
      let kept : q y ≡ true = ap q (same_some y x got) ∙ stays in
      rw kept (0, rw is (ap (λ n. Some n) (omega arith)), got)
  within_first q y xs x from to (suc k) is stays same got = absurd (omega (arith, same))

  within_later : (q : X → Bool) (y : X) (xs : List X) (x : X) (from to k : ℕ) → p y ≡ false
      → ((to k : ℕ) → position_from p (from + 1) xs ≡ Some (from + 1 + k) → slice_get xs k ≡ Some x → StaysPlaced q xs x to)
      → position_from p (from + 1) xs ≡ Some (from + k) → slice_get (y ∷ xs) k ≡ Some x → StaysPlaced q (y ∷ xs) x to
  within_later q y xs x from to zero not again h got = absurd (omega (arith, placed_past xs (from + 1) (from + 0) h))
  within_later q y xs x from to (suc k) not again h got =
      let on : position_from p (from + 1) xs ≡ Some (from + 1 + k) = h ∙ ap (λ n. Some n) (omega arith) in
      elim (cases_Bool (q y)) [
        | inl kept ↦
            let rest = again (to + 1) k on got in
            rw kept (suc rest.0, rw not (rest.1 ∙ ap (λ n. Some n) (omega arith)), rest.2)
        | inr left ↦ let rest = again to k on got in rw left rest
      ]

  -- the first that passes is the first still where others are left out
  pub placed_within : (q : X → Bool) (xs : List X) (x : X) (from to k : ℕ) → position_from p from xs ≡ Some (from + k)
      → slice_get xs k ≡ Some x → q x ≡ true
      → (j : ℕ) × (position_from p to (filter q xs) ≡ Some (to + j)) × (slice_get (filter q xs) j ≡ Some x)
  placed_within q [] x from to k h got stays = absurd cc
  placed_within q (y ∷ xs) x from to k h got stays = elim (cases_Bool (p y)) [
    | inl is ↦ within_first q y xs x from to k is stays (same_some from (from + k) (rw is at h)) got
    | inr not ↦
        within_later q y xs x from to k not (λ to k h got. placed_within q xs x (from + 1) to k h got stays) (rw not at h) got
  ]
