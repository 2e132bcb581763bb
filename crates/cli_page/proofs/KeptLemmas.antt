-- Numbers that rise by one, in one volume.
use Rattle.std.proofs.Common.{◌≡◌, ◌∙◌, ap, ℕ, zero, suc, ◌+◌, List, [], ◌∷◌, ◌++◌, Option, Some, None, true, refl, arith}
use Rattle.std.proofs.lemmas.Map.Views.{exact_unsigned_eq}
use Rattle.cli_page.specs.KeptNumbers.{Number, count_up, is_same_volume}

-- one number more, at the end
count_up_more : (v : Option ℕ) (f n : ℕ) → count_up v f (suc n) ≡ count_up v f n ++ (v, f + n) ∷ []
count_up_more v f zero = let e : f ≡ f + 0 = omega arith in ap (λ (k : ℕ). (v, k) ∷ []) e
count_up_more v f (suc n) =
    let e : (f + 1) + n ≡ f + suc n = omega arith in
    ap (λ (ks : List Number). (v, f) ∷ ks) (count_up_more v (f + 1) n ∙ ap (λ (k : ℕ). count_up v (f + 1) n ++ (v, k) ∷ []) e)

pub count_up_next : (v : Option ℕ) (f m k n : ℕ) → k ≡ m + 1 → n ≡ f + m + 1
    → count_up v f (suc k) ≡ count_up v f (suc m) ++ (v, n) ∷ []
count_up_next v f m k n e g =
    let h : k ≡ suc m = omega (arith, e) in
    let i : n ≡ f + suc m = omega (arith, g) in
    rw (h, i) (count_up_more v f (suc m))

-- what is of one volume has the number of that
pub same_volume : (one other : Option ℕ) → is_same_volume one other ≡ true → one ≡ other
same_volume None None is = refl
same_volume None (Some other) is = absurd (cc is)
same_volume (Some one) None is = absurd (cc is)
same_volume (Some one) (Some other) is = ap (λ (n : ℕ). Some n) (exact_unsigned_eq one other is)
