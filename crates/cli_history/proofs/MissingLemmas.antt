-- Numbers that are typed, and of which no event tells.
use Rattle.std.proofs.Common.{◌≡◌, ◌++◌, ◌∷◌, ◌∙◌, ◌&&◌, ◌||◌, [], ℕ, Bool, true, false, not, List, Option, Some, None}
use Rattle.std.proofs.Common.{refl, ap, sym, subst, inl, inr}
use Rattle.std.proofs.lemmas.Bool.{cases_Bool}
use Rattle.std.specs.Prelude.{filter}
use Rattle.std.specs.List.{list_all, list_any}
use Rattle.choice_words.specs.declared.numbers.TypedNumbers.{TypedNumbers}
use Rattle.record_history.specs.Events.{Deed}
use Rattle.cli_history.specs.Chosen.{meets}
use Rattle.cli_history.specs.Missing.{are_met, has_one, is_of, unmet, unmet_after}

-- ---- those that are left

pub all_left : {X : Type 0} (xs : List X) → filter (λ (x : X). not false) xs ≡ xs
all_left [] = refl
all_left (x ∷ xs) = ap (λ rest. x ∷ rest) (all_left xs)

-- none passes the test
pub none_taken : {X : Type 0} (p : X → Bool) (xs : List X) → list_any p xs ≡ false → filter (λ x. not (p x)) xs ≡ xs
none_taken p [] none = refl
none_taken {X = X} p (x ∷ xs) none = elim (cases_Bool (p x)) [
  | inl is ↦ absurd (let e : true ≡ false = rw is at none in cc)
  | inr other ↦ rw other (ap (λ (rest : List X). x ∷ rest) (none_taken p xs (rw other at none)))
]

-- ---- one deed more

pub unmet_joined : (words : List TypedNumbers) (ds more : List Deed) → unmet (unmet words ds) more ≡ unmet words (ds ++ more)
unmet_joined words [] more = refl
unmet_joined words (d ∷ ds) more = unmet_joined (unmet_after words d) ds more

-- about no record
pub about_none : (words : List TypedNumbers) (o : Option (ℕ × ℕ)) → None ≡ o → words ≡ filter (λ w. not (has_one o w)) words
about_none words None is = sym (all_left words)
about_none words (Some s) is = absurd cc

pub about_some : (words : List TypedNumbers) (first last : ℕ) (o : Option (ℕ × ℕ)) → Some (first, last) ≡ o
    → filter (λ w. not (meets first last w)) words ≡ filter (λ w. not (has_one o w)) words
about_some words first last None is = absurd cc
about_some words first last (Some s) is =
    let one : first ≡ s.0 = ap (first_of first) is in
    let other : last ≡ s.1 = ap (last_of last) is in
    ap (λ n. filter (λ w. not (meets n last w)) words) one ∙ ap (λ n. filter (λ w. not (meets s.0 n w)) words) other
  where
    first_of : ℕ → Option (ℕ × ℕ) → ℕ
    first_of n None = n
    first_of n (Some x) = x.0

    last_of : ℕ → Option (ℕ × ℕ) → ℕ
    last_of n None = n
    last_of n (Some x) = x.1

-- ---- all are met

left_met : (p : TypedNumbers → Bool) (d : Deed) (words : List TypedNumbers) → list_all p (unmet_after words d) ≡ true
    → list_all (λ w. is_of w d || p w) words ≡ true
left_met p d [] all = refl
left_met p d (w ∷ ws) all = elim (cases_Bool (is_of w d)) [
  | inl is ↦ rw is (left_met p d ws (rw is at all))
  | inr other ↦ rw other (both (p w) (list_all p (unmet_after ws d)) (list_all (λ v. is_of v d || p v) ws) (rw other at all) (left_met p d ws))
]
  where
    both : (a b c : Bool) → (a && b) ≡ true → (b ≡ true → c ≡ true) → (a && c) ≡ true
    both true b c is to = to is
    both false b c is to = absurd cc

pub all_met : (words : List TypedNumbers) (ds : List Deed) → unmet words ds ≡ [] → are_met words ds ≡ true
all_met words [] none = subst (λ ws. list_all (λ w. list_any (is_of w) []) ws ≡ true) (sym none) refl
all_met words (d ∷ ds) none = left_met (λ w. list_any (is_of w) ds) d words (all_met (unmet_after words d) ds none)
