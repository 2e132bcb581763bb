-- Tables of the numbers of procedures, as they are made.
use Rattle.std.proofs.Common.{◌≡◌, ℕ, zero, suc, ◌+◌, ◌<◌, List, [], ◌∷◌, ◌++◌, length, Option, refl, sym, subst, arith}
use Rattle.std.proofs.Common.{below_more}
use Rattle.sieve_meaning.specs.Procedures.{Procedure}
use Rattle.sieve_library.specs.Libraries.{Scripts}
use Rattle.filing_gen.specs.Numbers.{IsNumber, number_at}

number_front : (numbers : List (Option ℕ)) (n : Option ℕ) (k : ℕ) → k < length numbers → number_at numbers k ≡ number_at (numbers ++ n ∷ []) k
number_front [] n k h = absurd (omega (arith, h))
number_front (m ∷ numbers) n zero h = refl
number_front (m ∷ numbers) n (suc k) h = number_front numbers n k (omega (arith, h))

number_last : (numbers : List (Option ℕ)) (n : Option ℕ) (k : ℕ) → length numbers ≡ k → n ≡ number_at (numbers ++ n ∷ []) k
number_last [] n zero h = refl
number_last [] n (suc k) h = absurd (omega (arith, h))
number_last (m ∷ numbers) n zero h = absurd (omega (arith, h))
number_last (m ∷ numbers) n (suc k) h = number_last numbers n k (omega (arith, h))

module _ (l : Scripts) (later : List Procedure) (p : Procedure) where
  -- the numbers of the slots below this one
  abbrev pub AreNumbersBelow : (slot : ℕ) → List (Option ℕ) → Type 0
  AreNumbersBelow slot numbers = (k : ℕ) → k < slot → IsNumber l later p k (number_at numbers k)

  pub number_more : (numbers more : List (Option ℕ)) (n : Option ℕ) (slot : ℕ) → length numbers ≡ slot
      → AreNumbersBelow slot numbers → IsNumber l later p slot n → more ≡ numbers ++ n ∷ []
      → AreNumbersBelow (slot + 1) more
  number_more numbers more n slot long below here is =
      subst (AreNumbersBelow (slot + 1)) (sym is)
      (below_more (λ k. IsNumber l later p k (number_at (numbers ++ n ∷ []) k)) slot
      (λ k lt. subst (λ (o : Option ℕ). IsNumber l later p k o) (number_front numbers n k (omega (arith, long, lt))) (below k lt))
      (subst (λ (o : Option ℕ). IsNumber l later p slot o) (number_last numbers n slot long) here))
