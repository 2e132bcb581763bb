-- What is read one after the other was written one after the other.
use Rattle.std.proofs.Common.{◌≡◌, ℕ, zero, suc, List, [], ◌∷◌, ◌++◌, length, Option, Some, refl, ap, subst, ◌∙◌, append_assoc}
use Rattle.std.specs.List.{flat_map, AllByRecursion}
use Rattle.std.proofs.lemmas.List.Concat.{flat_map-cons}
use Rattle.filing_image.specs.Reading.{◌>>=◌, many_at}
use Rattle.filing_image.proofs.Fields.{IsBytes, bind_some, bind_is, some_is, Takes, Takes-then}

module _ {A : Type 0} (read : List ℕ → Option (A × List ℕ)) (spell : A → List ℕ) (Fine : A → Type 0) where
  abbrev with_others : A → List A × List ℕ → Option (List A × List ℕ)
  with_others first others = Some (first ∷ others.0, others.1)

  abbrev with_first : ℕ → A × List ℕ → Option (List A × List ℕ)
  with_first n first = many_at read n first.1 >>= with_others first.0

  pub many_takes : ((octets : List ℕ) (x : A × List ℕ) → IsBytes octets → read octets ≡ Some x → Takes octets (spell x.0) x.1 × Fine x.0)
      → (n : ℕ) (octets : List ℕ) (x : List A × List ℕ) → IsBytes octets → many_at read n octets ≡ Some x
      → Takes octets (flat_map spell x.0) x.1 × (length x.0 ≡ n) × AllByRecursion Fine x.0
  unfolding many_at
  many_takes one zero octets x fits e =
      subst (λ (y : List A × List ℕ). Takes octets (flat_map spell y.0) y.1 × (length y.0 ≡ 0)
      × AllByRecursion Fine y.0) (some_is ([], octets) x e) (record { parts = refl; rest_fits = fits }, refl, tt)
  many_takes one (suc n) octets x fits e =
      let a = bind_some (read octets) (with_first n) x e in
      let b = bind_some (many_at read n a.0.1) (with_others a.0.0) x a.2 in
      let first = one octets a.0 fits a.1 in
      let second = many_takes one n a.0.1 b.0 first.0.rest_fits b.1 in
      let both = Takes-then first.0 second.0 in
      let made : List A × List ℕ = (a.0.0 ∷ b.0.0, b.0.1) in
      subst (λ (y : List A × List ℕ). Takes octets (flat_map spell y.0) y.1 × (length y.0 ≡ suc n)
      × AllByRecursion Fine y.0) (some_is made x b.2) (rw flat_map-cons both, ap suc second.1, (first.1, second.2))

  pub many_again : ((x : A) (rest : List ℕ) → Fine x → read (spell x ++ rest) ≡ Some (x, rest))
      → (xs : List A) (rest : List ℕ) → AllByRecursion Fine xs → many_at read (length xs) (flat_map spell xs ++ rest) ≡ Some (xs, rest)
  unfolding many_at
  many_again one [] rest fits = refl
  many_again one (x ∷ xs) rest fits =
      let regrouped : flat_map spell (x ∷ xs) ++ rest ≡ spell x ++ (flat_map spell xs ++ rest) =
      ap (λ (t : List ℕ). t ++ rest) (flat_map-cons spell x xs) ∙ append_assoc (spell x) (flat_map spell xs) rest in
      ap (many_at read (suc (length xs))) regrouped
      ∙ bind_is (read (spell x ++ (flat_map spell xs ++ rest))) (with_first (length xs)) (
        x,
        flat_map spell xs
            ++ rest,
      ) (one x (flat_map spell xs ++ rest) fits.0)
      ∙ bind_is (many_at read (length xs) (flat_map spell xs ++ rest)) (with_others x) (xs, rest) (many_again one xs rest fits.1)
