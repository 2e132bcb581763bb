-- The code of a test pushes the test's truth value.
use Rattle.std.proofs.Common.{◌≡◌, ℕ, List, [], ◌∷◌, ◌++◌, map, Bool, true, false, not, ◌&&◌, ◌||◌, cond, refl, sym, ap}
use Rattle.std.proofs.Common.{◌∙◌, append_assoc, append-nil}
use Rattle.std.specs.List.{list_any, list_all, flat_map, filter}
use Rattle.std.proofs.lemmas.List.Folds.{list_any-append}
use Rattle.sieve_meaning.specs.declared.matching.Comparator.{Comparator}
use Rattle.sieve_meaning.specs.declared.matching.Comparator.TheVariants as comparators
use Rattle.sieve_meaning.specs.declared.matching.MatchType.{MatchType}
use Rattle.sieve_meaning.specs.declared.matching.MatchType.TheVariants as match_types
use Rattle.sieve_meaning.specs.Matching.{key_matches}
use Rattle.sieve_meaning.specs.Case.{Facts, Field, is_named}
use Rattle.sieve_meaning.specs.Truth.{has_field, header_truth, truth, all_true, some_true}
use Rattle.sieve_meaning.specs.Program.{Test, always, negated, all_of, any_of, has_all, over, under, header, Tests, no_test, test_then}
use Rattle.filing_table.specs.Machine.{Entry, T, L, comparison_holds, values_of}
use Rattle.filing_flow.specs.Structure.{Push, Drop, Flow, action, sequence, leave}
use Rattle.filing_flow.specs.Effect.{FlowState, Exit, FallsThrough, Leaves, CallEffects, effect, caught}
use Rattle.filing_flow.specs.Effect as effects
use Rattle.filing_gen.specs.Names.{each_once, others_once}
use Rattle.filing_gen.proofs.Names.{some_once, every_once, same_named}
use Rattle.filing_table.specs.Comparison.{comparison}
use Rattle.filing_gen.specs.BlockCode.{either, values_flow, keys_flow, names_flow, header_flow, test_flow, tests_flow}

-- LISTS: a test of some values of some fields

any_same : {X : Type 0} (p q : X → Bool) (xs : List X) → ((x : X) → p x ≡ q x) → list_any p xs ≡ list_any q xs
any_same p q [] e = refl
any_same p q (x ∷ xs) e = ap (λ b. b || list_any p xs) (e x) ∙ ap (λ b. q x || b) (any_same p q xs e)

any_flat : {X Y : Type 0} (p : Y → Bool) (g : X → List Y) (xs : List X) → list_any p (flat_map g xs) ≡ list_any (λ x. list_any p (g x)) xs
any_flat p g [] = refl
any_flat p g (x ∷ xs) = list_any-append p (g x) (flat_map g xs) ∙ ap (λ b. list_any p (g x) || b) (any_flat p g xs)

any_none : {X : Type 0} (xs : List X) → list_any (λ x. false) xs ≡ false
any_none [] = refl
any_none (x ∷ xs) = any_none xs

or_swap : (a b c d : Bool) → ((a || b) || (c || d)) ≡ ((a || c) || (b || d))
or_swap true b c d = refl
or_swap false true true d = refl
or_swap false true false d = refl
or_swap false false c d = refl

any_or : {X : Type 0} (p q : X → Bool) (xs : List X) → list_any (λ x. p x || q x) xs ≡ (list_any p xs || list_any q xs)
any_or p q [] = refl
any_or p q (x ∷ xs) = ap (λ b. (p x || q x) || b) (any_or p q xs) ∙ or_swap (p x) (q x) (list_any p xs) (list_any q xs)

any_swap : {X Y : Type 0} (r : X → Y → Bool) (xs : List X) (ys : List Y)
    → list_any (λ x. list_any (r x) ys) xs ≡ list_any (λ y. list_any (λ x. r x y) xs) ys
any_swap r [] ys = sym (any_none ys)
any_swap r (x ∷ xs) ys = ap (λ b. list_any (r x) ys || b) (any_swap r xs ys) ∙ sym (any_or (r x) (λ y. list_any (λ x. r x y) xs) ys)

any_and : {X : Type 0} (b : Bool) (p : X → Bool) (xs : List X) → list_any (λ x. b && p x) xs ≡ (b && list_any p xs)
any_and true p xs = refl
any_and false p xs = any_none xs

and_or : (a b d : Bool) → ((a && d) || (b && d)) ≡ ((a || b) && d)
and_or true true true = refl
and_or true true false = refl
and_or true false true = refl
and_or true false false = refl
and_or false b d = refl

any_and_last : {X : Type 0} (p : X → Bool) (d : Bool) (xs : List X) → list_any (λ x. p x && d) xs ≡ (list_any p xs && d)
any_and_last p d [] = refl
any_and_last p d (x ∷ xs) = ap (λ b. (p x && d) || b) (any_and_last p d xs) ∙ and_or (p x) (list_any p xs) d

any_values : (p : List ℕ → Bool) (name : List ℕ) (fs : List Field)
    → list_any p (map (λ f. f.value) (filter (is_named name) fs)) ≡ list_any (λ f. is_named name f && p f.value) fs
any_values p name [] = refl
any_values p name (f ∷ fs) =
    elim (is_named name f) as (λ b.
    list_any p (map (λ f. f.value) (cond b (f ∷ filter (is_named name) fs) (filter (is_named name) fs)))
    ≡ ((b && p f.value) || list_any (λ f. is_named name f && p f.value) fs))
    [ true ↦ ap (λ b. p f.value || b) (any_values p name fs) | false ↦ any_values p name fs ]

compared_is : (m : MatchType) (c : Comparator) (key value : List ℕ) → comparison_holds (comparison m c) key value ≡ key_matches m c key value
compared_is match_types.Is comparators.Octet key value = refl
compared_is match_types.Is comparators.Casemap key value = refl
compared_is match_types.Contains comparators.Octet key value = refl
compared_is match_types.Contains comparators.Casemap key value = refl
compared_is match_types.Matches comparators.Octet key value = refl
compared_is match_types.Matches comparators.Casemap key value = refl

module _ (called : CallEffects) (c : Facts) where
  -- some value of the named fields matches the key
  key_truth : (a : ℕ) (names : List (List ℕ)) (key : List ℕ)
      → list_any (comparison_holds a key) (flat_map (values_of c) names)
      ≡ list_any (λ f. list_any (λ name. is_named name f) names && comparison_holds a key f.value) c.fields
  key_truth a names key =
      any_flat (comparison_holds a key) (values_of c) names
      ∙ any_same (λ name. list_any (comparison_holds a key) (values_of c name)) (λ name.
      list_any (λ f. is_named name f && comparison_holds a key f.value) c.fields) names (λ name.
      any_values (comparison_holds a key) name c.fields)
      ∙ any_swap (λ name f. is_named name f && comparison_holds a key f.value) names c.fields
      ∙ any_same (λ f. list_any (λ name. is_named name f && comparison_holds a key f.value) names) (λ f.
      list_any (λ name. is_named name f) names && comparison_holds a key f.value) c.fields (λ f.
      any_and_last (λ name. is_named name f) (comparison_holds a key f.value) names)

  header_is : (m : MatchType) (o : Comparator) (names keys : List (List ℕ))
      → list_any (λ key. list_any (comparison_holds (comparison m o) key) (flat_map (values_of c) names)) keys
      ≡ header_truth c m o names keys
  header_is m o names keys =
      let a = comparison m o in
      any_same (λ key. list_any (comparison_holds a key) (flat_map (values_of c) names)) (λ key.
      list_any (λ f. list_any (λ name. is_named name f) names && comparison_holds a key f.value) c.fields) keys
      (λ key. key_truth a names key)
      ∙ any_swap (λ key f. list_any (λ name. is_named name f) names && comparison_holds a key f.value) keys c.fields
      ∙ any_same (λ f.
      list_any (λ key. list_any (λ name. is_named name f) names && comparison_holds a key f.value) keys) (λ f.
      list_any (λ name. is_named name f) names && list_any (λ key. key_matches m o key f.value) keys) c.fields
      (λ f. any_and (list_any (λ name. is_named name f) names) (λ key. comparison_holds a key f.value) keys
      ∙ ap (λ b. list_any (λ name. is_named name f) names
      && b) (any_same (λ key. comparison_holds a key f.value) (λ key. key_matches m o key f.value) keys (λ key.
      compared_is m o key f.value)))

  -- TESTS

  abbrev exit_if : Bool → FlowState → List Entry → Exit
  exit_if b f es = cond b (Leaves 0 f es) (FallsThrough f es)

  values_means : (ns : List (List ℕ)) (f : FlowState) (xs : List (List ℕ))
      → effect called c (values_flow ns) f (L xs ∷ []) ≡ FallsThrough f (L (xs ++ flat_map (values_of c) ns) ∷ [])
  values_means [] f xs = ap (λ (ys : List (List ℕ)). FallsThrough f (L ys ∷ [])) (sym (append-nil xs))
  values_means (n ∷ ns) f xs = values_means ns f (xs ++ values_of c n)
      ∙ ap (λ (ys : List (List ℕ)).
      FallsThrough f (L ys ∷ [])) (append_assoc xs (values_of c n) (flat_map (values_of c) ns))

  keys_means : (a : ℕ) (ks : List (List ℕ)) (f : FlowState) (xs : List (List ℕ))
      → effect called c (keys_flow a ks) f (L xs ∷ [])
      ≡ exit_if (list_any (λ k. list_any (comparison_holds a k) xs) ks) f (L xs ∷ [])
  keys_means a [] f xs = refl
  keys_means a (k ∷ ks) f xs =
      elim (list_any (comparison_holds a k) xs) as (λ t.
      effects.and_then (effects.jump_exit true 0 f (T t ∷ L xs ∷ [])) (effect called c (keys_flow a ks))
      ≡ exit_if (t || list_any (λ k. list_any (comparison_holds a k) xs) ks) f (L xs ∷ [])) [
        | true ↦ refl
        | false ↦ keys_means a ks f xs
      ]

  names_means : (ns : List (List ℕ)) (f : FlowState) → effect called c (names_flow ns) f [] ≡ exit_if (not (list_all (has_field c) ns)) f []
  names_means [] f = refl
  names_means (n ∷ ns) f =
      elim (has_field c n) as (λ t.
      effects.and_then (effects.jump_exit false 0 f (T t ∷ [])) (effect called c (names_flow ns))
      ≡ exit_if (not (t && list_all (has_field c) ns)) f []) [ true ↦ names_means ns f | false ↦ refl ]

  either_means : (past out b : Bool) (a : Flow) (f : FlowState) → effect called c a f [] ≡ exit_if b f []
      → effect called c (either past out a) f [] ≡ FallsThrough f (T (cond b out past) ∷ [])
  either_means past out true a f e = rw e refl
  either_means past out false a f e = rw e refl

  header_ends : (f : FlowState) (xs : List (List ℕ)) (b : Bool)
      → caught (effects.and_then
      (caught (effects.and_then (exit_if b f (L xs ∷ []))
      (effect called c (sequence (action Drop) (sequence (action (Push false)) (leave 1))))))
      (effect called c (sequence (action Drop) (action (Push true))))) ≡ FallsThrough f (T b ∷ [])
  header_ends f xs true = refl
  header_ends f xs false = refl

  choose : (b : Bool) → cond b true false ≡ b
  choose true = refl
  choose false = refl

  choose_not : (b : Bool) → cond (not b) false true ≡ b
  choose_not true = refl
  choose_not false = refl

  only_header_means : (m : MatchType) (o : Comparator) (n : List ℕ) (ns : List (List ℕ)) (k : List ℕ) (ks : List (List ℕ)) (f : FlowState)
      → effect called c (header_flow (comparison m o) n ns k ks) f [] ≡ FallsThrough f (T (header_truth c m o (n ∷ ns) (k ∷ ks)) ∷ [])
  only_header_means m o n ns k ks f =
      let xs = values_of c n ++ flat_map (values_of c) ns in
      let a = comparison m o in
      let names = values_means ns f (values_of c n) in
      let found = list_any (λ k. list_any (comparison_holds a k) xs) (k ∷ ks) in
      let keys : effect called c (keys_flow a (k ∷ ks)) f (L xs ∷ []) ≡ exit_if found f (L xs ∷ []) = keys_means a (k ∷ ks) f xs in
      rw (names, keys) (header_ends f xs found) ∙ ap (λ (b : Bool). FallsThrough f (T b ∷ [])) (header_is m o (n ∷ ns) (k ∷ ks))

  -- names that were given before make no difference
  header_means : (m : MatchType) (o : Comparator) (n : List ℕ) (ns : List (List ℕ)) (k : List ℕ) (ks : List (List ℕ)) (f : FlowState)
      → effect called c (header_flow (comparison m o) n (others_once n ns) k ks) f [] ≡ FallsThrough f (T (header_truth c m o (n ∷ ns) (k ∷ ks)) ∷ [])
  header_means m o n ns k ks f =
      only_header_means m o n (others_once n ns) k ks f
      ∙ ap (λ (b : Bool). FallsThrough f (T b ∷ []))
      (any_same (λ f. list_any (λ name. is_named name f) (n ∷ others_once n ns)
      && list_any (λ key. key_matches m o key f.value) (k ∷ ks)) (λ f. list_any (λ name. is_named name f) (n ∷ ns)
      && list_any (λ key. key_matches m o key f.value) (k ∷ ks)) c.fields
      (λ f. ap (λ b. b && list_any (λ key. key_matches m o key f.value) (k ∷ ks)) (some_once (λ name.
      is_named name f) (λ a b same. same_named f a b same) (n ∷ ns))))

  all_once : (ns : List (List ℕ)) → list_all (has_field c) (each_once ns) ≡ list_all (has_field c) ns
  all_once ns = every_once (has_field c) (λ a b same. any_same (is_named a) (is_named b) c.fields (λ f. same_named f a b same)) ns

  mutual
    pub test_means : (t : Test) (f : FlowState) → effect called c (test_flow t) f [] ≡ FallsThrough f (T (truth c t) ∷ [])
    test_means (always b) f = refl
    test_means (negated t) f = rw (test_means t f) refl
    test_means (all_of ts) f = either_means true false (not (all_true c ts)) (tests_flow false ts) f (all_means ts f)
        ∙ ap (λ (b : Bool). FallsThrough f (T b ∷ [])) (choose_not (all_true c ts))
    test_means (any_of ts) f = either_means false true (some_true c ts) (tests_flow true ts) f (some_means ts f)
        ∙ ap (λ (b : Bool). FallsThrough f (T b ∷ [])) (choose (some_true c ts))
    test_means (has_all ns) f =
        either_means true false (not (list_all (has_field c) (each_once ns))) (names_flow (each_once ns)) f
        (names_means (each_once ns) f)
        ∙ ap (λ (b : Bool). FallsThrough f (T b ∷ [])) (choose_not (list_all (has_field c) (each_once ns))
        ∙ all_once ns)
    test_means (over n) f = refl
    test_means (under n) f = refl
    test_means (header m o n ns k ks) f = header_means m o n ns k ks f

    all_means : (ts : Tests) (f : FlowState) → effect called c (tests_flow false ts) f [] ≡ exit_if (not (all_true c ts)) f []
    all_means no_test f = refl
    all_means (test_then t ts) f =
        rw (test_means t f) (elim (truth c t) as (λ b.
        effects.and_then (effects.jump_exit false 0 f (T b ∷ [])) (effect called c (tests_flow false ts))
        ≡ exit_if (not (b && all_true c ts)) f []) [ true ↦ all_means ts f | false ↦ refl ])

    some_means : (ts : Tests) (f : FlowState) → effect called c (tests_flow true ts) f [] ≡ exit_if (some_true c ts) f []
    some_means no_test f = refl
    some_means (test_then t ts) f =
        rw (test_means t f) (elim (truth c t) as (λ b.
        effects.and_then (effects.jump_exit true 0 f (T b ∷ [])) (effect called c (tests_flow true ts))
        ≡ exit_if (b || some_true c ts) f []) [ true ↦ refl | false ↦ some_means ts f ])
