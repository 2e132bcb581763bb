-- The code of a script has a type and sound operands, and no more operations than its weight.
use Rattle.std.proofs.Common.{◌≡◌, ℕ, suc, ◌+◌, ◌*◌, ◌≤◌, List, [], ◌∷◌, length, Bool, true, false, Some, refl, arith}
use Rattle.filing_verify.specs.declared.kind.Kind.TheVariants.{Truth, Texts, Count}
use Rattle.filing_flow.specs.Structure.{Push, ValuesOf, Drop, Flow, action, sequence, block, leave, size, Bounds, IsSound}
use Rattle.filing_flow.specs.Types.{Shape, HasType, shape_at}
use Rattle.sieve_meaning.specs.declared.matching.Comparator.{Comparator}
use Rattle.sieve_meaning.specs.declared.matching.Comparator.TheVariants as comparators
use Rattle.sieve_meaning.specs.declared.matching.MatchType.{MatchType}
use Rattle.sieve_meaning.specs.declared.matching.MatchType.TheVariants as match_types
use Rattle.sieve_meaning.specs.Program.{Test, always, negated, all_of, any_of, has_all, over, under, header, Tests}
use Rattle.sieve_meaning.specs.Program.{no_test, test_then, Include, Command, require, keep, discard, stop, return}
use Rattle.sieve_meaning.specs.Program.{file_into, branch, include, Commands, no_command, command_then, Branches}
use Rattle.sieve_meaning.specs.Program.{no_branch, otherwise, if_then}
use Rattle.sieve_meaning.specs.Weight.{test_weight, tests_weight, weight, weight_one, branches_weight}
use Rattle.filing_gen.specs.Names.{each_once, others_once}
use Rattle.filing_gen.proofs.Names.{once_fewer, others_fewer}
use Rattle.filing_table.specs.Comparison.{comparison}
use Rattle.filing_gen.specs.BlockCode.{either, values_flow, keys_flow, names_flow, test_flow, tests_flow, copy_number, flow, flow_one, branches_flow}

-- TYPES

values_typed : (ns : List (List ℕ)) (es : List Shape) → HasType (values_flow ns) es (Texts ∷ []) (Texts ∷ [])
values_typed [] es = refl
values_typed (n ∷ ns) es = (Texts ∷ Texts ∷ [], (refl, omega arith, omega arith), (Texts ∷ [], (refl, omega arith, omega arith), values_typed ns es))

pub keys_typed : (a : ℕ) (ks : List (List ℕ)) (es : List Shape) → HasType (keys_flow a ks) ((Texts ∷ []) ∷ es) (Texts ∷ []) (Texts ∷ [])
keys_typed a [] es = refl
keys_typed a (k ∷ ks) es = (Truth ∷ Texts ∷ [], (refl, omega arith, omega arith), (Texts ∷ [], (refl, omega arith, refl), keys_typed a ks es))

pub names_typed : (ns : List (List ℕ)) (es : List Shape) → HasType (names_flow ns) ([] ∷ es) [] []
names_typed [] es = refl
names_typed (n ∷ ns) es = (Truth ∷ [], (refl, omega arith, omega arith), ([], (refl, omega arith, refl), names_typed ns es))

either_typed : (past out : Bool) (a : Flow) (es : List Shape) → HasType a ([] ∷ (Truth ∷ []) ∷ es) [] []
    → HasType (either past out a) es [] (Truth ∷ [])
either_typed past out a es d = ([], ([], d, (Truth ∷ [], (refl, omega arith, omega arith), (omega arith, refl))), (refl, omega arith, omega arith))

header_typed : (a : ℕ) (n : List ℕ) (ns ks : List (List ℕ)) (es : List Shape)
    → HasType (block
    (sequence (block (sequence (sequence (action (ValuesOf n)) (values_flow ns))
    (sequence (keys_flow a ks) (sequence (action Drop) (sequence (action (Push false)) (leave 1))))))
    (sequence (action Drop) (action (Push true))))) es [] (Truth ∷ [])
header_typed a n ns ks es = (
  Texts ∷ [],
  (
    Texts ∷ [],
    (Texts ∷ [], (refl, omega arith, omega arith), values_typed ns ((Texts ∷ []) ∷ (Truth ∷ []) ∷ es)),
    (
      Texts ∷ [],
      keys_typed a ks ((Truth ∷ []) ∷ es),
      ([], (refl, omega arith, omega arith), (Truth ∷ [], (refl, omega arith, omega arith), (omega arith, refl))),
    ),
  ),
  ([], (refl, omega arith, omega arith), (refl, omega arith, omega arith)),
)

mutual
  test_typed : (t : Test) (es : List Shape) → HasType (test_flow t) es [] (Truth ∷ [])
  test_typed (always b) es = (refl, omega arith, omega arith)
  test_typed (negated t) es = (Truth ∷ [], test_typed t es, (refl, omega arith, omega arith))
  test_typed (all_of ts) es = either_typed true false (tests_flow false ts) es (tests_typed false ts ((Truth ∷ []) ∷ es))
  test_typed (any_of ts) es = either_typed false true (tests_flow true ts) es (tests_typed true ts ((Truth ∷ []) ∷ es))
  test_typed (has_all ns) es = either_typed true false (names_flow (each_once ns)) es (names_typed (each_once ns) ((Truth ∷ []) ∷ es))
  test_typed (over n) es = (
    Count ∷ [],
    (refl, omega arith, omega arith),
    (
      Count ∷ Count ∷ [],
      (refl, omega arith, omega arith),
      (refl, omega arith, omega arith),
    ),
  )
  test_typed (under n) es = (
    Count ∷ [],
    (refl, omega arith, omega arith),
    (
      Count ∷ Count ∷ [],
      (refl, omega arith, omega arith),
      (refl, omega arith, omega arith),
    ),
  )
  test_typed (header m c n ns k ks) es = header_typed (comparison m c) n (others_once n ns) (k ∷ ks) es

  pub tests_typed : (b : Bool) (ts : Tests) (es : List Shape) → HasType (tests_flow b ts) ([] ∷ es) [] []
  tests_typed b no_test es = refl
  tests_typed b (test_then t ts) es = (Truth ∷ [], test_typed t ([] ∷ es), ([], (refl, omega arith, refl), tests_typed b ts es))

abbrev pub IncludesTyped : (Include → Flow) → Type 0
IncludesTyped g = (i : Include) (es : List Shape) → HasType (g i) es [] []

module _ (g : Include → Flow) (typed : IncludesTyped g) where
  mutual
    pub flow_typed : (n : ℕ) (xs : Commands) (es : List Shape) → shape_at es n ≡ Some [] → HasType (flow g n xs) es [] []
    flow_typed n no_command es at = refl
    flow_typed n (command_then x xs) es at = ([], one_typed n x es at, flow_typed n xs es at)

    one_typed : (n : ℕ) (x : Command) (es : List Shape) → shape_at es n ≡ Some [] → HasType (flow_one g n x) es [] []
    one_typed n require es at = refl
    one_typed n keep es at = (refl, omega arith, omega arith)
    one_typed n discard es at = (refl, omega arith, omega arith)
    one_typed n stop es at = (refl, omega arith, omega arith)
    one_typed n return es at = (omega arith, at)
    one_typed n (file_into copy path) es at = (refl, omega arith, omega arith)
    one_typed n (branch bs) es at = branches_typed n bs es at
    one_typed n (include i) es at = typed i es

    branches_typed : (n : ℕ) (bs : Branches) (es : List Shape) → shape_at es n ≡ Some [] → HasType (branches_flow g (suc n) bs) ([] ∷ es) [] []
    branches_typed n no_branch es at = refl
    branches_typed n (otherwise xs) es at = flow_typed (suc n) xs ([] ∷ es) at
    branches_typed n (if_then t xs bs) es at = (
      [],
      (
        Truth ∷ [],
        test_typed t ([] ∷ [] ∷ es),
        ([], (refl, omega arith, refl), ([], flow_typed (suc (suc n)) xs ([] ∷ [] ∷ es) at, (omega arith, refl))),
      ),
      branches_typed n bs es at,
    )

-- SIZES

values_small : (ns : List (List ℕ)) → size (values_flow ns) ≤ 2 * length ns
values_small [] = omega arith
values_small (n ∷ ns) = omega (arith, values_small ns)

keys_small : (a : ℕ) (ks : List (List ℕ)) → size (keys_flow a ks) ≤ 2 * length ks
keys_small a [] = omega arith
keys_small a (k ∷ ks) = omega (arith, keys_small a ks)

names_small : (ns : List (List ℕ)) → size (names_flow ns) ≤ 2 * length ns
names_small [] = omega arith
names_small (n ∷ ns) = omega (arith, names_small ns)

mutual
  test_small : (t : Test) → size (test_flow t) + 1 ≤ test_weight t
  test_small (always b) = omega arith
  test_small (negated t) = omega (arith, test_small t)
  test_small (all_of ts) = omega (arith, tests_small false ts)
  test_small (any_of ts) = omega (arith, tests_small true ts)
  test_small (has_all ns) = omega (arith, names_small (each_once ns), once_fewer ns)
  test_small (over n) = omega arith
  test_small (under n) = omega arith
  test_small (header m c n ns k ks) = omega (arith, values_small (others_once n ns), others_fewer n ns, keys_small (comparison m c) ks)

  tests_small : (b : Bool) (ts : Tests) → size (tests_flow b ts) ≤ tests_weight ts
  tests_small b no_test = omega arith
  tests_small b (test_then t ts) = omega (arith, test_small t, tests_small b ts)

abbrev pub IncludesSmall : (Include → Flow) → (Include → ℕ) → Type 0
IncludesSmall g w = (i : Include) → size (g i) ≤ 4 + w i

module _ (g : Include → Flow) (w : Include → ℕ) (small : IncludesSmall g w) where
  mutual
    pub flow_small : (n : ℕ) (xs : Commands) → size (flow g n xs) ≤ weight w xs
    flow_small n no_command = omega arith
    flow_small n (command_then x xs) = omega (arith, one_small n x, flow_small n xs)

    one_small : (n : ℕ) (x : Command) → size (flow_one g n x) ≤ weight_one w x
    one_small n require = omega arith
    one_small n keep = omega arith
    one_small n discard = omega arith
    one_small n stop = omega arith
    one_small n return = omega arith
    one_small n (file_into copy path) = omega arith
    one_small n (branch bs) = branches_small (suc n) bs
    one_small n (include i) = small i

    branches_small : (n : ℕ) (bs : Branches) → size (branches_flow g n bs) ≤ branches_weight w bs
    branches_small n no_branch = omega arith
    branches_small n (otherwise xs) = omega (arith, flow_small n xs)
    branches_small n (if_then t xs bs) = omega (arith, test_small t, flow_small (suc n) xs, branches_small n bs)

-- OPERANDS

comparison_sound : (m : MatchType) (c : Comparator) → comparison m c ≤ 5
comparison_sound match_types.Is comparators.Octet = omega arith
comparison_sound match_types.Is comparators.Casemap = omega arith
comparison_sound match_types.Contains comparators.Octet = omega arith
comparison_sound match_types.Contains comparators.Casemap = omega arith
comparison_sound match_types.Matches comparators.Octet = omega arith
comparison_sound match_types.Matches comparators.Casemap = omega arith

copy_sound : (b : Bool) → copy_number b ≤ 1
copy_sound true = omega arith
copy_sound false = omega arith

module _ (bounds : Bounds) where
  values_sound : (ns : List (List ℕ)) → IsSound bounds (values_flow ns)
  values_sound [] = tt
  values_sound (n ∷ ns) = (tt, (tt, values_sound ns))

  keys_sound : (a : ℕ) → a ≤ 5 → (ks : List (List ℕ)) → IsSound bounds (keys_flow a ks)
  keys_sound a h [] = tt
  keys_sound a h (k ∷ ks) = (h, (tt, keys_sound a h ks))

  names_sound : (ns : List (List ℕ)) → IsSound bounds (names_flow ns)
  names_sound [] = tt
  names_sound (n ∷ ns) = (tt, (tt, names_sound ns))

  mutual
    test_sound : (t : Test) → IsSound bounds (test_flow t)
    test_sound (always b) = tt
    test_sound (negated t) = (test_sound t, tt)
    test_sound (all_of ts) = ((tests_sound false ts, (tt, tt)), tt)
    test_sound (any_of ts) = ((tests_sound true ts, (tt, tt)), tt)
    test_sound (has_all ns) = ((names_sound (each_once ns), (tt, tt)), tt)
    test_sound (over n) = (tt, (tt, tt))
    test_sound (under n) = (tt, (tt, tt))
    test_sound (header m c n ns k ks) = (
      (
        (tt, values_sound (others_once n ns)),
        (
          keys_sound (comparison m c) (comparison_sound m c) (k ∷ ks),
          (tt, (tt, tt)),
        ),
      ),
      (tt, tt),
    )

    tests_sound : (b : Bool) (ts : Tests) → IsSound bounds (tests_flow b ts)
    tests_sound b no_test = tt
    tests_sound b (test_then t ts) = (test_sound t, (tt, tests_sound b ts))

  abbrev pub IncludesSound : (Include → Flow) → Type 0
  IncludesSound g = (i : Include) → IsSound bounds (g i)

  module _ (g : Include → Flow) (sound : IncludesSound g) where
    mutual
      pub flow_sound : (n : ℕ) (xs : Commands) → IsSound bounds (flow g n xs)
      flow_sound n no_command = tt
      flow_sound n (command_then x xs) = (one_sound n x, flow_sound n xs)

      one_sound : (n : ℕ) (x : Command) → IsSound bounds (flow_one g n x)
      one_sound n require = tt
      one_sound n keep = tt
      one_sound n discard = tt
      one_sound n stop = tt
      one_sound n return = tt
      one_sound n (file_into copy path) = copy_sound copy
      one_sound n (branch bs) = branches_sound (suc n) bs
      one_sound n (include i) = sound i

      branches_sound : (n : ℕ) (bs : Branches) → IsSound bounds (branches_flow g n bs)
      branches_sound n no_branch = tt
      branches_sound n (otherwise xs) = flow_sound n xs
      branches_sound n (if_then t xs bs) = ((test_sound t, (tt, (flow_sound (suc n) xs, tt))), branches_sound n bs)
