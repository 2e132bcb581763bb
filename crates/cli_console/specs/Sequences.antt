-- The texts of several things, one behind the other, and how many things these are.
use Rattle.std.specs.Prelude.{◌≡◌, ℕ, ◌+◌, ◌==◌, Bool, true, false, if◌then◌else◌, min, List, [], ◌∷◌, ◌++◌, length, codes}
use Rattle.std.proofs.Common.{refl, sym, ap, ◌∙◌, subst, arith, ◌≤◌}
use Rattle.std.proofs.lemmas.Bool.{ne_eqb}
use Rattle.std.proofs.lemmas.List.{append_assoc, append-nil}
use Rattle.cli_console.specs.Counts.{greatest, one_more}

-- THE TEXT OF THESE: that of each, once, in this order. Which text is that of one may depend on whether it is the first one.
abbrev pub AreTexts : {X : Type 0} (IsText : (is_first : Bool) → X → List ℕ → Type 0) → (is_first : Bool) → List X → List ℕ → Type 0
AreTexts IsText is_first [] text = text ≡ []
AreTexts IsText is_first (x ∷ xs) text =
    (one : List ℕ) × IsText is_first x one × (rest : List ℕ) × AreTexts IsText false xs rest × (text ≡ one ++ rest)

-- what stands between two objects of JSON, and before the first one
abbrev pub between : (is_first : Bool) → List ℕ
between is_first = if is_first then codes "\n" else codes ",\n"

-- those that are meant, where this one is: it alone, or none
abbrev pub only : {X : Type 0} → Bool → X → List X
only true x = x ∷ []
only false x = []

-- one more for each, up to the greatest count
abbrev pub more_for : {X : Type 0} → List X → ℕ → ℕ
more_for [] n = n
more_for (x ∷ xs) n = more_for xs (one_more n)

-- the next one is the first one where there is none of these, and they begin with the first one
abbrev pub first_after : {X : Type 0} → Bool → List X → Bool
first_after is_first [] = is_first
first_after is_first (x ∷ xs) = false

-- ---- laws

pub not_first : {X : Type 0} (xs : List X) → first_after false xs ≡ false
not_first [] = refl
not_first (x ∷ xs) = refl

pub one_text : {X : Type 0} (IsText : Bool → X → List ℕ → Type 0) (is_first : Bool) (x : X) (text : List ℕ) → IsText is_first x text
    → AreTexts IsText is_first (x ∷ []) text
one_text IsText is_first x text is = (text, is, [], refl, sym (append-nil text))

pub texts_joined : {X : Type 0} (IsText : Bool → X → List ℕ → Type 0) (is_first : Bool) (xs ys : List X) (t u : List ℕ)
    → AreTexts IsText is_first xs t → AreTexts IsText (first_after is_first xs) ys u → AreTexts IsText is_first (xs ++ ys) (t ++ u)
texts_joined IsText is_first [] ys t u one other = subst (λ s. AreTexts IsText is_first ys (s ++ u)) (sym one) other
texts_joined IsText is_first (x ∷ xs) ys t u one other = (
  one.0,
  one.1,
  one.2 ++ u,
  texts_joined IsText false xs ys one.2 u one.3 (subst (λ b. AreTexts IsText b ys u) (sym (not_first xs)) other),
  ap (λ s. s ++ u) one.4 ∙ append_assoc one.0 one.2 u,
)

pub counted_joined : {X : Type 0} (xs ys : List X) (n : ℕ) → more_for ys (more_for xs n) ≡ more_for (xs ++ ys) n
counted_joined [] ys n = refl
counted_joined (x ∷ xs) ys n = counted_joined xs ys (one_more n)

pub is_some : (n : ℕ) → (one_more n == 0) ≡ false
is_some n = ne_eqb (one_more n) 0 (λ e. omega (arith, e))

pub is_none : {X : Type 0} (xs : List X) (n : ℕ) → (more_for xs n == 0) ≡ first_after (n == 0) xs
is_none [] n = refl
is_none (x ∷ xs) n = is_none xs (one_more n) ∙ ap (λ b. first_after b xs) (is_some n) ∙ not_first xs

pub count_of : {X : Type 0} (xs : List X) (n : ℕ) → n ≤ greatest → more_for xs n ≡ min (n + length xs) greatest
count_of [] n fits = omega arith
count_of (x ∷ xs) n fits = count_of xs (one_more n) (omega arith) ∙ omega arith
