-- Those of a list that are gathered from left to right, each unless one like it is among those before, are the first of
-- those that are alike.
use Rattle.std.proofs.Common.{◌≡◌, List, [], ◌∷◌, ◌++◌, filter, Bool, true, false, not, ◌&&◌, ◌||◌, cond, refl, sym, ap, ◌∙◌, append_assoc}
use Rattle.std.proofs.Common.{append-nil, inl, inr}
use Rattle.std.specs.List.{list_any}
use Rattle.std.proofs.lemmas.Bool.{or_right, or_left, or_cases}
use Rattle.sieve_meaning.specs.Procedures.{once}
use Rattle.sieve_meaning.proofs.ProcedureLemmas.{AllOf, all_append, all_once}

module _ {A : Type 0} where
  any_append : (t : A → Bool) (xs ys : List A) → list_any t (xs ++ ys) ≡ (list_any t xs || list_any t ys)
  any_append t [] ys = refl
  any_append t (x ∷ xs) ys = ap (λ (b : Bool). t x || b) (any_append t xs ys) ∙ or_assoc (t x) (list_any t xs) (list_any t ys)
    where
      or_assoc : (a b c : Bool) → (a || (b || c)) ≡ ((a || b) || c)
      or_assoc true b c = refl
      or_assoc false b c = refl

  pub filter_all : (q : A → Bool) → ((x : A) → q x ≡ true) → (xs : List A) → filter q xs ≡ xs
  filter_all q h [] = refl
  filter_all q h (x ∷ xs) = ap (λ (b : Bool). cond b (x ∷ filter q xs) (filter q xs)) (h x) ∙ ap (λ (l : List A). x ∷ l) (filter_all q h xs)

  -- to filter twice
  filter_both : (P : A → Type 0) (p q r : A → Bool) → ((x : A) → P x → r x ≡ (p x && q x)) → (xs : List A) → AllOf P xs
      → filter p (filter q xs) ≡ filter r xs
  filter_both P p q r h [] all = refl
  filter_both P p q r h (x ∷ xs) all =
      by (p x) refl (q x) refl (r x) (h x all.0) (filter_both P p q r h xs all.1)
    where
      by : (a : Bool) → p x ≡ a → (b : Bool) → q x ≡ b → (d : Bool) → d ≡ (p x && q x)
          → filter p (filter q xs) ≡ filter r xs
          → filter p (cond b (x ∷ filter q xs) (filter q xs)) ≡ cond d (x ∷ filter r xs) (filter r xs)
      by true pa true qb true is rest =
          ap (λ (c : Bool). cond c (x ∷ filter p (filter q xs)) (filter p (filter q xs))) pa
          ∙ ap (λ (l : List A). x ∷ l) rest
      by false pa true qb false is rest = ap (λ (c : Bool). cond c (x ∷ filter p (filter q xs)) (filter p (filter q xs))) pa ∙ rest
      by a pa false qb false is rest = rest
      by true pa true qb false is rest = absurd (cc (is, ap (λ (c : Bool). c && q x) pa))
      by false pa true qb true is rest = absurd (cc (is, ap (λ (c : Bool). c && q x) pa))
      by true pa false qb true is rest = absurd (cc (is, ap (λ (c : Bool). c && q x) pa))
      by false pa false qb true is rest = absurd (cc (is, ap (λ (c : Bool). c && q x) pa))

module _ {A : Type 0} (alike : A → A → Bool) (k : A → Bool) where
  -- one more of those that are wanted, unless one like it is there
  abbrev pub put : List A → A → List A
  put ys x = cond (k x && not (list_any (λ y. alike y x) ys)) (ys ++ x ∷ []) ys

  abbrev pub puts : List A → List A → List A
  puts ys [] = ys
  puts ys (x ∷ xs) = puts (put ys x) xs

  pub puts_append : (ys xs zs : List A) → puts ys (xs ++ zs) ≡ puts (puts ys xs) zs
  puts_append ys [] zs = refl
  puts_append ys (x ∷ xs) zs = puts_append (put ys x) xs zs

  module _ (P : A → Type 0) (along : (x y z : A) → P x → P y → P z → alike x y ≡ true → alike y z ≡ true
      → alike x z ≡ true) (kept : (x z : A) → P x → P z → alike x z ≡ true → k x ≡ k z) where
    abbrev is_new : List A → A → Bool
    is_new ys z = k z && not (list_any (λ y. alike y z) ys)

    any_along : (x z : A) → P x → P z → (ys : List A) → AllOf P ys → alike x z ≡ true
        → list_any (λ y. alike y x) ys ≡ true → list_any (λ y. alike y z) ys ≡ true
    any_along x z px pz [] all like some = some
    any_along x z px pz (y ∷ ys) all like some = elim (or_cases (alike y x) (list_any (λ y. alike y x) ys) some) [
      | inl here ↦ or_left (alike y z) (list_any (λ y. alike y z) ys) (along y x z all.0 px pz here like)
      | inr later ↦ or_right (alike y z) (list_any (λ y. alike y z) ys) (any_along x z px pz ys all.1 like later)
    ]

    -- one that is like another that was left out is left out too
    left_out : (ys : List A) → AllOf P ys → (x : A) → P x → (k x && not (list_any (λ y. alike y x) ys)) ≡ false
        → (z : A) → P z → is_new ys z ≡ (is_new ys z && not (alike x z))
    left_out ys all x px out z pz = by (alike x z) refl
      where
        dropped : (a b c d : Bool) → a ≡ c → (b ≡ true → d ≡ true) → (a && not b) ≡ false → (c && not d) ≡ false
        dropped false b false d e h n = refl
        dropped true true true true e h n = refl
        dropped true true true false e h n = absurd (cc (h refl))
        dropped true false true d e h n = absurd (cc n)
        dropped true b false d e h n = refl
        dropped false b true d e h n = absurd (cc e)

        by : (b : Bool) → alike x z ≡ b → is_new ys z ≡ (is_new ys z && not b)
        by false is = and_true (is_new ys z)
          where
            and_true : (a : Bool) → a ≡ (a && true)
            and_true true = refl
            and_true false = refl
        by true is =
            let none : is_new ys z ≡ false =
            dropped (k x) (list_any (λ y. alike y x) ys) (k z) (list_any (λ y. alike y z) ys) (kept x z px pz is)
            (any_along x z px pz ys all is) out in
            none ∙ ap (λ (a : Bool). a && false) (sym none)

    -- after one more
    after_one : (ys : List A) (x z : A) → is_new (ys ++ x ∷ []) z ≡ (is_new ys z && not (alike x z))
    after_one ys x z =
        ap (λ (b : Bool). k z && not b) (any_append (λ y. alike y z) ys (x ∷ [])) ∙ by (k z) (list_any (λ y. alike y z) ys) (alike x z)
      where
        by : (a b c : Bool) → (a && not (b || (c || false))) ≡ ((a && not b) && not c)
        by false b c = refl
        by true true c = refl
        by true false true = refl
        by true false false = refl

    pub puts_are : (xs ys : List A) → AllOf P xs → AllOf P ys → puts ys xs ≡ ys ++ filter (is_new ys) (once alike xs)
    puts_are [] ys all ally = sym (append-nil ys)
    puts_are (x ∷ xs) ys all ally = by (k x && not (list_any (λ y. alike y x) ys)) refl (λ zs allz. puts_are xs zs all.1 allz)
      where
        rest : AllOf P (once alike xs)
        rest = all_once alike P xs all.1

        by : (b : Bool) → (k x && not (list_any (λ y. alike y x) ys)) ≡ b
            → ((zs : List A) → AllOf P zs → puts zs xs ≡ zs ++ filter (is_new zs) (once alike xs))
            → puts (cond b (ys ++ x ∷ []) ys) xs ≡ ys
            ++ cond b (x ∷ filter (is_new ys) (filter (λ z. not (alike x z)) (once alike xs)))
            (filter (is_new ys) (filter (λ z. not (alike x z)) (once alike xs)))
        by true is go =
            go (ys ++ x ∷ []) (all_append P ys (x ∷ []) ally (all.0, tt))
            ∙ ap (λ (l : List A). (ys ++ x ∷ [])
            ++ l) (sym (filter_both P (is_new ys) (λ z. not (alike x z)) (is_new (ys ++ x ∷ [])) (λ z pz.
            after_one ys x z) (once alike xs) rest))
            ∙ append_assoc ys (x ∷ []) (filter (is_new ys) (filter (λ z. not (alike x z)) (once alike xs)))
        by false is go =
            go ys ally
            ∙ ap (λ (l : List A). ys
            ++ l) (sym (filter_both P (is_new ys) (λ z. not (alike x z)) (is_new ys) (λ z pz.
            left_out ys ally x all.0 is z pz) (once alike xs) rest))

    -- where nothing is there at first
    pub puts_once : (xs : List A) → AllOf P xs → puts [] xs ≡ filter k (once alike xs)
    puts_once xs all = puts_are xs [] all tt ∙ same_tests (once alike xs)
      where
        same_tests : (zs : List A) → filter (is_new []) zs ≡ filter k zs
        same_tests [] = refl
        same_tests (z ∷ zs) = by (k z) (same_tests zs)
          where
            by : (b : Bool) → filter (is_new []) zs ≡ filter k zs
                → cond (b && true) (z ∷ filter (is_new []) zs) (filter (is_new []) zs)
                ≡ cond b (z ∷ filter k zs) (filter k zs)
            by true e = ap (λ (l : List A). z ∷ l) e
            by false e = e
