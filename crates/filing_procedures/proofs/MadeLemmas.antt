-- A test of some of a list, item by item.
use Rattle.std.proofs.Common.{◌≡◌, ℕ, zero, suc, ◌+◌, ◌<◌, ◌≤◌, List, [], ◌∷◌, take, length, map, get_or, Bool, true}
use Rattle.std.proofs.Common.{false, cond, ◌||◌, Option, Some, None, option_map, is_some, refl, sym, ap, ◌∙◌, arith}
use Rattle.std.specs.List.{list_any}
use Rattle.std.proofs.lemmas.List.Folds.{list_any-append}
use Rattle.std.proofs.lemmas.Grind.{common_steps}
use Rattle.std.proofs.lemmas.Bool.{or_parts}
use Rattle.sieve_meaning.specs.Meaning.{Library}
use Rattle.sieve_meaning.specs.Procedures.{Procedure, is_shared}
use Rattle.filing_procedures.specs.ProcedureCode.{procedure_of, number_of}
use Rattle.filing_procedures.specs.declared.procedure.Procedure as code
use Rattle.filing_procedures.proofs.ReachTables.{item_more}

module _ {A : Type 0} (t : A → Bool) (xs : List A) (i : ℕ) where
  neither : (a b : Bool) → a ≡ false → b ≡ false → (a || (b || false)) ≡ false
  neither false false h k = refl
  neither true b h k = absurd (cc h)
  neither false true h k = absurd (cc k)

  pub none_more : (x : A) → i < length xs → x ≡ get_or xs i x → t x ≡ false → list_any t (take i xs) ≡ false → list_any t (take (i + 1) xs) ≡ false
  none_more x below is h none =
      ap (list_any t) (item_more xs i x below is) ∙ list_any-append t (take i xs) (x ∷ []) ∙ neither (list_any t (take i xs)) (t x) none h

  all_taken : length xs ≤ i → take i xs ≡ xs
  all_taken past = grind (arith, common_steps)

  pub none_at_end : length xs ≤ i → list_any t (take i xs) ≡ false → false ≡ list_any t xs
  none_at_end past none = sym none ∙ ap (list_any t) (all_taken past)

-- NUMBERS

module _ (lib : Library) (e : Procedure) where
  abbrev shares : code.Procedure → Bool
  shares p = is_shared lib (procedure_of p) e

  -- the number of the first one that is shared
  pub number_found : (ps : List code.Procedure) (i : ℕ) (p : code.Procedure) → i < length ps → p ≡ get_or ps i p
      → shares p ≡ true → list_any shares (take i ps) ≡ false → Some i ≡ number_of lib (map procedure_of ps) e
  number_found [] i p below is h none = absurd (omega (arith, below))
  number_found (q ∷ ps) zero p below is h none =
      ap (λ (b : Bool). cond b (Some 0) (option_map suc (number_of lib (map procedure_of ps) e)))
      (sym (ap shares (sym is) ∙ h))
  number_found (q ∷ ps) (suc i) p below is h none =
      let parts = or_parts (shares q) (list_any shares (take i ps)) none in
      ap (option_map suc) (number_found ps i p (omega (arith, below)) is h parts.1)
      ∙ ap (λ (b : Bool). cond b (Some 0) (option_map suc (number_of lib (map procedure_of ps) e))) (sym parts.0)

  pub no_number : (ps : List code.Procedure) → list_any shares ps ≡ false → None ≡ number_of lib (map procedure_of ps) e
  no_number [] none = refl
  no_number (q ∷ ps) none =
      let parts = or_parts (shares q) (list_any shares ps) none in
      ap (option_map suc) (no_number ps parts.1)
      ∙ ap (λ (b : Bool). cond b (Some 0) (option_map suc (number_of lib (map procedure_of ps) e))) (sym parts.0)

  is_some_next : (o : Option ℕ) → is_some (option_map suc o) ≡ is_some o
  is_some_next None = refl
  is_some_next (Some n) = refl

  -- one of them has a number where it is shared
  pub number_there : (ps : List code.Procedure) → is_some (number_of lib (map procedure_of ps) e) ≡ list_any shares ps
  number_there [] = refl
  number_there (q ∷ ps) =
      elim (shares q) as (λ b. is_some (cond b (Some 0) (option_map suc (number_of lib (map procedure_of ps) e)))
      ≡ (b || list_any shares ps)) [
        | true ↦ refl
        | false ↦ is_some_next (number_of lib (map procedure_of ps) e) ∙ number_there ps
      ]
