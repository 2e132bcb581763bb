-- Numbers that are asked for.
use Rattle.std.proofs.Common.{is_eq, length, filter, ◌≡◌, ◌==◌, ℕ, Bool, true, false, cond, ◌||◌, List, [], ◌∷◌, ◌++◌, refl, ap, ap₂, ◌∙◌, arith}
use Rattle.std.proofs.lemmas.Bool.Decides.{nat_tests}
use Rattle.std.specs.BTreeSet.{BTreeSet, contains, Updates}
use Rattle.std.specs.Ordering.{nat_cmp}
use Rattle.record_archive.specs.Archive.{Line}
use Rattle.record_choice.specs.Disposals.{is_asked, is_one_of}

-- where none is asked for, each is
pub none_asked : (ns : List ℕ) (ls : List Line) → length ns ≡ 0 → ls ≡ filter (λ (l : Line). is_asked ns l.number) ls
none_asked [] [] e = refl
none_asked [] (l ∷ ls) e = ap (λ k. l ∷ k) (none_asked [] ls e)
none_asked (n ∷ ns) ls e = absurd (omega (arith, e))

one_more : (ns : List ℕ) (k n : ℕ) → cond (n == k) true (is_one_of ns n) ≡ is_one_of (ns ++ k ∷ []) n
one_more [] k n = go (n == k)
  where
    go : (b : Bool) → cond b true false ≡ (b || false)
    go true = refl
    go false = refl
one_more (m ∷ ms) k n = go (n == k) (n == m) (one_more ms k n)
  where
    go : (b c : Bool) → cond b true (is_one_of ms n) ≡ is_one_of (ms ++ k ∷ []) n
        → cond b true (c || is_one_of ms n) ≡ (c || is_one_of (ms ++ k ∷ []) n)
    go true true more = refl
    go true false more = more
    go false true more = refl
    go false false more = more

eq_is : (m n : ℕ) → is_eq (nat_cmp m n) ≡ (n == m)
eq_is m n = grind (arith, nat_tests)

-- a set with one more number
pub set_more : (s t : BTreeSet ℕ) (ns : List ℕ) (k : ℕ) → Updates nat_cmp s t k true → ((n : ℕ) → contains nat_cmp s n ≡ is_one_of ns n)
    → (n : ℕ) → contains nat_cmp t n ≡ is_one_of (ns ++ k ∷ []) n
set_more s t ns k update so_far n = update.0 n ∙ ap₂ (λ b c. cond b true c) (eq_is k n) (so_far n) ∙ one_more ns k n
