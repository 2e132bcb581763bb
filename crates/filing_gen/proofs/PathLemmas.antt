-- Path weights, from the last procedure on, are those of the paths through the scripts.
use Rattle.std.proofs.Common.{◌≡◌, ◌≤◌, ◌+◌, ℕ, zero, suc, List, [], ◌∷◌, Bool, true, false, Option, Some, None, inl}
use Rattle.std.proofs.Common.{inr, refl, sym, ap, ◌∙◌, subst, arith}
use Rattle.std.specs.Prelude.{slice_get, slice_index}
use Rattle.std.proofs.lemmas.Option.{same_Some}
use Rattle.sieve_meaning.specs.Program.{Include, Commands}
use Rattle.sieve_meaning.specs.Meaning.{script_named, is_among, Library}
use Rattle.sieve_meaning.specs.Weight.{weight, unless_missing, unless_active}
use Rattle.sieve_meaning.specs.Procedures.{includes_of, Procedure, main_procedure, procedures, included_path, path_weight}
use Rattle.sieve_meaning.proofs.SharingLemmas.{IsIn, SameAt, weight_alike, shared_path}
use Rattle.sieve_meaning.proofs.ProcedureLemmas.{IsSomeEntered, FindsCalls, AllFind, AllOf, all_element}
use Rattle.sieve_meaning.proofs.ProcedureLemmas.{IsElement, named_once, shared_script, all_find, after_main}
use Rattle.sieve_meaning.proofs.ProcedureLemmas.{procedures_are, after_main_entered}
use Rattle.filing_procedures.specs.ProcedureCode.{number_of}
use Rattle.filing_gen.specs.Procedures.{path_at, called_path, path_weights}
use Rattle.filing_gen.proofs.CallLemmas.{numbered, entered_there}

pub got_element : {A : Type 0} (xs : List A) (n : ℕ) (x : A) → slice_get xs n ≡ Some x → IsElement x xs
got_element [] n x h = absurd (cc h)
got_element (y ∷ ys) zero x h = inl (sym (same_Some y x h))
got_element (y ∷ ys) (suc n) x h = inr (got_element ys n x h)

path_case : (o : Option Commands) (active : Bool) (e k : Commands → ℕ)
    → ((y : Commands) → o ≡ Some y → active ≡ false → e y ≡ k y)
    → unless_missing o (λ script. unless_active active (e script)) ≡ unless_missing o (λ script.
    unless_active active (k script))
path_case None active e k h = refl
path_case (Some y) true e k h = refl
path_case (Some y) false e k h = h y refl refl

module _ (lib : Library) where
  -- the weight of a longest path from a procedure on
  abbrev pub path_from : Procedure → ℕ
  path_from q = weight (included_path lib q.left q.chain) q.script + 1

  -- the path weights of these
  abbrev pub ArePaths : List Procedure → List ℕ → Type 0
  ArePaths later paths = (n : ℕ) (q : Procedure) → slice_get later n ≡ Some q → slice_index paths n ≡ path_from q

  module _ (later : List Procedure) (paths : List ℕ) (are : ArePaths later paths)
      (all : AllOf (IsSomeEntered lib) later) (p : Procedure) (finds : FindsCalls lib p later) where
    entered_path : (left : ℕ) → p.left ≡ suc left → (i : Include) → IsIn i (includes_of p.script) → (x : Commands)
        → lib.find (script_named i) ≡ Some x → is_among p.chain (script_named i) ≡ false
        → path_at paths (number_of lib later (record { script = x; left = left; chain = script_named i ∷ p.chain }))
        ≡ weight (included_path lib left (script_named i ∷ p.chain)) x + 1
    entered_path left is i there x at out =
        let s = script_named i in
        let e : Procedure = record { script = x; left = left; chain = s ∷ p.chain } in
        let found = numbered lib later e (finds left is s e (named_once p.script i there) (entered_there lib left p.chain s x at out)) in
        let q = found.procedure in
        let known = all_element (IsSomeEntered lib) q later all (got_element later found.number q found.stands) in
        let script : q.script ≡ x = shared_script lib q e known.0 known.2 s p.chain refl at found.shared in
        let few : q.left ≤ 7 = omega (arith, known.1, known.2.left_is) in
        ap (λ (o : Option ℕ). path_at paths o) found.number_is ∙ are found.number q found.stands
        ∙ ap (λ (n : ℕ). n + 1) (shared_path lib q e script few found.shared)

    by_left : (left : ℕ) → p.left ≡ left → SameAt (called_path lib later paths left p.chain) (included_path lib left p.chain) (includes_of p.script)
    by_left zero is i there = refl
    by_left (suc left) is i there =
        let s = script_named i in
        path_case (lib.find s) (is_among p.chain s) (λ script.
        path_at paths (number_of lib later (record { script = script; left = left; chain = s ∷ p.chain })))
        (λ script. weight (included_path lib left (s ∷ p.chain)) script + 1)
        (λ x at out. entered_path left is i there x at out)

    path_is : weight (called_path lib later paths p.left p.chain) p.script + 1 ≡ path_from p
    path_is = ap (λ (n : ℕ).
        n + 1) (weight_alike (called_path lib later paths p.left p.chain) (included_path lib p.left p.chain) p.script
        (by_left p.left refl))

  pub paths_are : (ps : List Procedure) → AllFind lib ps → AllOf (IsSomeEntered lib) ps → ArePaths ps (path_weights lib ps)
  paths_are [] finds all n q h = absurd (cc h)
  paths_are (p ∷ later) finds all zero q h =
      path_is later (path_weights lib later) (paths_are later finds.1 all.1) all.1 p finds.0
      ∙ ap path_from (same_Some p q h)
  paths_are (p ∷ later) finds all (suc n) q h = paths_are later finds.1 all.1 n q h

  -- the main script's path weight stands first
  pub path_first : (known_as : Option (List ℕ)) (main : Commands)
      → path_weights lib (procedures lib known_as main) ≡ path_weight lib known_as main
      ∷ path_weights lib (after_main lib known_as main)
  unfolding path_weight
  path_first known_as main =
      let p = main_procedure known_as main in
      let later = after_main lib known_as main in
      let finds : AllFind lib (p ∷ later) = subst (AllFind lib) (procedures_are lib known_as main) (all_find lib known_as main) in
      ap (λ (ps : List Procedure). path_weights lib ps) (procedures_are lib known_as main)
      ∙ ap (λ (n : ℕ).
      n ∷ path_weights lib later)
      (path_is later (path_weights lib later) (paths_are later finds.1 (after_main_entered lib known_as main))
      (after_main_entered lib known_as main) p finds.0)
