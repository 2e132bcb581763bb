-- Includes that share a procedure run alike, and weigh the same on every path.
use Rattle.std.proofs.Common.{◌≡◌, ◌⊎◌, ℕ, zero, suc, ◌+◌, ◌≤◌, List, [], ◌∷◌, ◌++◌, map, filter, Bool, true, false}
use Rattle.std.proofs.Common.{not, ◌&&◌, ◌||◌, cond, Option, Some, None, inl, inr, refl, sym, ap, ◌∙◌, subst, arith}
use Rattle.std.specs.Str.{bytes_eq}
use Rattle.std.specs.List.{list_any}
use Rattle.std.proofs.lemmas.Slice.Eq.{bytes_eq-Decides}
use Rattle.std.specs.Prelude.{nat_eq}
use Rattle.std.proofs.lemmas.Bool.{and_parts, and_from, or_right, or_left, or_cases, eqb-true, not-false}
use Rattle.std.specs.Cmp.{both_ways}
use Rattle.sieve_meaning.specs.declared.run_fault.RunFault.TheVariants.{NestingTooDeep}
use Rattle.sieve_meaning.specs.Case.{Facts}
use Rattle.sieve_meaning.specs.Truth.{truth}
use Rattle.sieve_meaning.specs.Program.{Include, Command, branch, include, Commands, no_command}
use Rattle.sieve_meaning.specs.Program.{command_then, Branches, no_branch, otherwise, if_then}
use Rattle.sieve_meaning.specs.Meaning.{ScriptName, script_named, same_bool, same_script, is_among, Library, Filing, Ending, GoesOn}
use Rattle.sieve_meaning.specs.Meaning.{Faults, Included, and_then, run, run_one, run_branches, inclusion_within, inclusion, ending_of_include}
use Rattle.sieve_meaning.specs.Meaning.{with_entry, unless_entered, unless_missing, unless_active}
use Rattle.sieve_meaning.specs.Weight as weights
use Rattle.sieve_meaning.specs.Weight.{weight, weight_one, branches_weight}
use Rattle.sieve_meaning.specs.Procedures.{includes_of, includes_in, branch_includes, once, included_names, holds_if_there, reaches_within, reaches}
use Rattle.sieve_meaning.specs.Procedures.{Procedure, same_first, are_among, is_shared, included_path}
use Rattle.sieve_meaning.specs.Sharing.{SharingLaw}

-- NAMES

same_bool_is : (a b : Bool) → same_bool a b ≡ true → a ≡ b
same_bool_is true true e = refl
same_bool_is true false e = absurd (cc e)
same_bool_is false true e = absurd (cc e)
same_bool_is false false e = refl

pub same_is : (s t : ScriptName) → same_script s t ≡ true → s ≡ t
same_is s t e =
    let parts = and_parts (same_bool s.global t.global) (bytes_eq s.name t.name) e in
    let g : s.global ≡ t.global = same_bool_is s.global t.global parts.0 in
    let n : s.name ≡ t.name = (bytes_eq-Decides s.name t.name).0 parts.1 in
    let both : (s.global, s.name) ≡ (t.global, t.name) = cc in
    ap (λ (p : Bool × List ℕ). record { global = p.0; name = p.1 }) both

same_bool_self : (b : Bool) → same_bool b b ≡ true
same_bool_self true = refl
same_bool_self false = refl

pub same_self : (s : ScriptName) → same_script s s ≡ true
same_self s = and_from (same_bool s.global s.global) (bytes_eq s.name s.name) (same_bool_self s.global) ((bytes_eq-Decides s.name s.name).1 refl)

-- INCLUDES OF A SCRIPT

-- an include is one of these
abbrev pub IsIn : Include → List Include → Type 0
IsIn i [] = ⊥
IsIn i (j ∷ js) = (i ≡ j) ⊎ IsIn i js

pub in_front : (i : Include) (is js : List Include) → IsIn i is → IsIn i (is ++ js)
in_front i [] js h = absurd h
in_front i (j ∷ is) js (inl e) = inl e
in_front i (j ∷ is) js (inr h) = inr (in_front i is js h)

pub in_rest : (i : Include) (is js : List Include) → IsIn i js → IsIn i (is ++ js)
in_rest i [] js h = h
in_rest i (j ∷ is) js h = inr (in_rest i is js h)

-- two things that are the same at each include of a list
abbrev pub SameAt : {A : Type 0} → (Include → A) → (Include → A) → List Include → Type 0
SameAt h k is = (i : Include) → IsIn i is → h i ≡ k i

-- RUNS

abbrev pub RunsAlike : Included → Included → List Include → Type 0
RunsAlike h k is = (i : Include) → IsIn i is → (f : Filing) → h i f ≡ k i f

then_alike : (e : Ending) (a b : Filing → Ending) → ((f : Filing) → a f ≡ b f) → and_then e a ≡ and_then e b
then_alike (GoesOn f) a b h = h f
then_alike e a b h = refl

either_alike : {A : Type 0} (t : Bool) (a b x y : A) → a ≡ x → b ≡ y → cond t a b ≡ cond t x y
either_alike true a b x y h k = h
either_alike false a b x y h k = k

module _ (c : Facts) (h k : Included) where
  mutual
    pub run_alike : (xs : Commands) → RunsAlike h k (includes_of xs) → (f : Filing) → run c h xs f ≡ run c k xs f
    run_alike no_command same f = refl
    run_alike (command_then x xs) same f =
        ap (λ (e : Ending). and_then e (run c h xs)) (one_alike x (λ i is. same i (in_front i (includes_in x) (includes_of xs) is)) f)
        ∙ then_alike (run_one c k x f) (run c h xs) (run c k xs) (run_alike xs (λ i is. same i (in_rest i (includes_in x) (includes_of xs) is)))

    one_alike : (x : Command) → RunsAlike h k (includes_in x) → (f : Filing) → run_one c h x f ≡ run_one c k x f
    one_alike (branch bs) same f = branches_alike bs same f
    one_alike (include i) same f = same i (inl refl) f
    one_alike x same f = refl

    branches_alike : (bs : Branches) → RunsAlike h k (branch_includes bs) → (f : Filing) → run_branches c h bs f ≡ run_branches c k bs f
    branches_alike no_branch same f = refl
    branches_alike (otherwise xs) same f = run_alike xs same f
    branches_alike (if_then t xs bs) same f =
        either_alike (truth c t) (run c h xs f) (run_branches c h bs f) (run c k xs f) (run_branches c k bs f)
        (run_alike xs (λ i is. same i (in_front i (includes_of xs) (branch_includes bs) is)) f)
        (branches_alike bs (λ i is. same i (in_rest i (includes_of xs) (branch_includes bs) is)) f)

-- WEIGHTS

module _ (h k : Include → ℕ) where
  mutual
    pub weight_alike : (xs : Commands) → SameAt h k (includes_of xs) → weight h xs ≡ weight k xs
    weight_alike no_command same = refl
    weight_alike (command_then x xs) same =
        let a = one_weighs x (λ i is. same i (in_front i (includes_in x) (includes_of xs) is)) in
        let b = weight_alike xs (λ i is. same i (in_rest i (includes_in x) (includes_of xs) is)) in
        omega (arith, a, b)

    one_weighs : (x : Command) → SameAt h k (includes_in x) → weight_one h x ≡ weight_one k x
    one_weighs (branch bs) same = branches_weigh bs same
    one_weighs (include i) same = ap (λ (n : ℕ). 4 + n) (same i (inl refl))
    one_weighs x same = refl

    branches_weigh : (bs : Branches) → SameAt h k (branch_includes bs) → branches_weight h bs ≡ branches_weight k bs
    branches_weigh no_branch same = refl
    branches_weigh (otherwise xs) same = ap (λ (n : ℕ). 4 + n) (weight_alike xs same)
    branches_weigh (if_then t xs bs) same =
        let a = weight_alike xs (λ i is. same i (in_front i (includes_of xs) (branch_includes bs) is)) in
        let b = branches_weigh bs (λ i is. same i (in_rest i (includes_of xs) (branch_includes bs) is)) in
        omega (arith, a, b)

-- TESTS

or_rest : (a b : Bool) → a ≡ false → (a || b) ≡ true → b ≡ true
or_rest true b n e = absurd (cc n)
or_rest false b n e = e

pub or_else : (a b d : Bool) → (a || b) ≡ true → (a ≡ false → b ≡ true → d ≡ true) → (a || d) ≡ true
or_else true b d e h = refl
or_else false b d e h = h refl e

-- REACHING

pub kept_step : {A : Type 0} (p : A → Bool) (x : A) (xs ys : List A) (b : Bool) → (b ≡ false → p x ≡ false)
    → (list_any p xs ≡ true → list_any p ys ≡ true) → (p x || list_any p xs) ≡ true
    → list_any p (cond b (x ∷ ys) ys) ≡ true
kept_step p x xs ys true h rest e = or_else (p x) (list_any p xs) (list_any p ys) e (λ n some. rest some)
kept_step p x xs ys false h rest e = rest (or_rest (p x) (list_any p xs) (h refl) e)

-- a test that fails at all that a filter drops holds of one that is kept
pub kept_any : {A : Type 0} (p q : A → Bool) (xs : List A) → ((x : A) → q x ≡ false → p x ≡ false)
    → list_any p xs ≡ true → list_any p (filter q xs) ≡ true
kept_any p q [] h e = e
kept_any p q (x ∷ xs) h e = kept_step p x xs (filter q xs) (q x) (h x) (kept_any p q xs h) e

-- a test that tells no like apart holds of the first of those that are alike
once_any : {A : Type 0} (alike : A → A → Bool) (p : A → Bool) (xs : List A)
    → ((x y : A) → alike x y ≡ true → p x ≡ false → p y ≡ false) → list_any p xs ≡ true
    → list_any p (once alike xs) ≡ true
once_any alike p [] r e = e
once_any alike p (x ∷ xs) r e =
    or_else (p x) (list_any p xs) (list_any p (filter (λ y. not (alike x y)) (once alike xs))) e
    (λ other some. kept_any p (λ y. not (alike x y)) (once alike xs) (λ y n. r x y (not-false (alike x y) n) other) (once_any alike p xs r some))

any_name : (p : ScriptName → Bool) (i : Include) (is : List Include) → IsIn i is → p (script_named i) ≡ true → list_any p (map script_named is) ≡ true
any_name p i [] there h = absurd there
any_name p i (j ∷ is) (inl e) h =
    or_left (p (script_named j)) (list_any p (map script_named is)) (ap (λ (n : Include). p (script_named n)) (sym e)
    ∙ h)
any_name p i (j ∷ is) (inr there) h = or_right (p (script_named j)) (list_any p (map script_named is)) (any_name p i is there h)

-- the chains agree on what the script reaches over so many includes at most
abbrev pub SameFor : Library → ℕ → Commands → (a b : List ScriptName) → Type 0
SameFor lib n script a b = (s : ScriptName) → reaches_within lib n script s ≡ true → is_among a s ≡ is_among b s

any_more : {A : Type 0} (p q : A → Bool) (xs : List A) → ((x : A) → p x ≡ true → q x ≡ true) → list_any p xs ≡ true → list_any q xs ≡ true
any_more p q [] h e = e
any_more p q (x ∷ xs) h e = elim (or_cases (p x) (list_any p xs) e) [
  | inl here ↦ or_left (q x) (list_any q xs) (h x here)
  | inr later ↦ or_right (q x) (list_any q xs) (any_more p q xs h later)
]

there_more : (o : Option Commands) (p q : Commands → Bool) → ((x : Commands) → p x ≡ true → q x ≡ true)
    → holds_if_there o p ≡ true → holds_if_there o q ≡ true
there_more None p q h e = e
there_more (Some x) p q h e = h x e

module _ (lib : Library) where
  -- what is reached is reached over more includes too
  pub reaches_more : (n m : ℕ) → n ≤ m → (x : Commands) (s : ScriptName) → reaches_within lib n x s ≡ true → reaches_within lib m x s ≡ true
  reaches_more zero m le x s e = absurd (cc e)
  reaches_more (suc n) zero le x s e = absurd (omega (arith, le))
  reaches_more (suc n) (suc m) le x s e =
      any_more (λ t. holds_if_there (lib.find t) (λ y. same_script t s || reaches_within lib n y s)) (λ t.
      holds_if_there (lib.find t) (λ y. same_script t s || reaches_within lib m y s)) (included_names x)
      (λ t h. there_more (lib.find t) (λ y. same_script t s || reaches_within lib n y s) (λ y. same_script t s || reaches_within lib m y s)
      (λ y k. or_else (same_script t s) (reaches_within lib n y s) (reaches_within lib m y s) k (λ other r.
      reaches_more n m (omega (arith, le)) y s r)) h) e

  pub reaches_named : (m : ℕ) (x y : Commands) (i : Include) → IsIn i (includes_of x)
      → lib.find (script_named i) ≡ Some y → (t : ScriptName)
      → (same_script (script_named i) t || reaches_within lib m y t) ≡ true → reaches_within lib (suc m) x t ≡ true
  reaches_named m x y i is there t h =
      let test : ScriptName → Bool = λ u. holds_if_there (lib.find u) (λ z. same_script u t || reaches_within lib m z t) in
      once_any same_script test (map script_named (includes_of x)) (λ u v e n. subst (λ (w : ScriptName). test w ≡ false) (same_is u v e) n)
      (any_name test i (includes_of x) is (ap (λ (o : Option Commands).
      holds_if_there o (λ z. same_script (script_named i) t || reaches_within lib m z t)) there ∙ h))

  pub at_include : (m : ℕ) (x y : Commands) (i : Include) (a b : List ScriptName) → IsIn i (includes_of x)
      → lib.find (script_named i) ≡ Some y → SameFor lib (suc m) x a b
      → is_among a (script_named i) ≡ is_among b (script_named i)
  at_include m x y i a b is there same =
      same (script_named i)
      (reaches_named m x y i is there (script_named i) (or_left (same_script (script_named i) (script_named i))
      (reaches_within lib m y (script_named i)) (same_self (script_named i))))

  pub inside_include : (m : ℕ) (x y : Commands) (i : Include) (a b : List ScriptName) → IsIn i (includes_of x)
      → lib.find (script_named i) ≡ Some y → SameFor lib (suc m) x a b
      → SameFor lib m y (script_named i ∷ a) (script_named i ∷ b)
  inside_include m x y i a b is there same t reached =
      ap (λ (t' : Bool). same_script t (script_named i)
      || t') (same t (reaches_named m x y i is there t
      (or_right (same_script (script_named i) t) (reaches_within lib m y t) reached)))

  -- what of these chains the script reaches is the same
  pub among_those : (x : Commands) (these others : List ScriptName) (s : ScriptName)
      → are_among lib x these others ≡ true → reaches lib x s ≡ true → is_among these s ≡ true
      → is_among others s ≡ true
  among_those x [] others s h r e = absurd (cc e)
  among_those x (u ∷ us) others s h r e =
      let parts = and_parts (not (reaches lib x u) || is_among others u) (are_among lib x us others) h in
      elim (or_cases (same_script s u) (is_among us s) e) [
        | inl is ↦
            let here : (not (reaches lib x s) || is_among others s) ≡ true =
            subst (λ (v : ScriptName). (not (reaches lib x v) || is_among others v) ≡ true) (sym (same_is s u is))
            parts.0 in
            or_rest (not (reaches lib x s)) (is_among others s) (ap not r) here
        | inr later ↦ among_those x us others s parts.1 r later
      ]

  pub same_reached : (x : Commands) (a b : List ScriptName) → are_among lib x a b ≡ true → are_among lib x b a ≡ true → SameFor lib 64 x a b
  unfolding reaches
  same_reached x a b h k s r = both_ways (is_among a s) (is_among b s) (among_those x a b s h r) (among_those x b a s k r)

-- INCLUDES

active_case : (b : Bool) (e k : Filing → Ending) (f : Filing) → e f ≡ k f → unless_active b e f ≡ unless_active b k f
active_case true e k f h = refl
active_case false e k f h = h

entered_case : (b : Bool) (e k : Filing → Ending) (f : Filing) → e f ≡ k f → unless_entered b e f ≡ unless_entered b k f
entered_case true e k f h = refl
entered_case false e k f h = h

missing_case : (o : Option Commands) (optional a b : Bool) (e k : Commands → Filing → Ending) (f : Filing)
    → ((y : Commands) → o ≡ Some y → (a ≡ b) × ((g : Filing) → e y g ≡ k y g))
    → unless_missing o optional (λ script. unless_active a (e script)) f ≡ unless_missing o optional (λ script. unless_active b (k script)) f
missing_case None optional a b e k f h = refl
missing_case (Some y) optional a b e k f h = let p = h y refl in ap (λ (t : Bool). unless_active t (e y) f) p.0 ∙ active_case b (e y) (k y) f (p.1 f)

path_case : (o : Option Commands) (a b : Bool) (e k : Commands → ℕ)
    → ((y : Commands) → o ≡ Some y → (a ≡ b) × (e y ≡ k y))
    → weights.unless_missing o (λ script. weights.unless_active a (e script)) ≡ weights.unless_missing o (λ script.
    weights.unless_active b (k script))
path_case None a b e k h = refl
path_case (Some y) a b e k h = let p = h y refl in ap (λ (t : Bool). weights.unless_active t (e y)) p.0
    ∙ ap (λ (n : ℕ). weights.unless_active b n) p.1

including_case : (lib : Library) (a b : List ScriptName) (e k : Commands → Filing → Ending) (i : Include) (f : Filing)
    → ((y : Commands) → lib.find (script_named i) ≡ Some y → (is_among a (script_named i) ≡ is_among b (script_named i))
    × ((g : Filing) → e y g ≡ k y g))
    → inclusion lib a e i f ≡ inclusion lib b k i f
including_case lib a b e k i f h =
    let s = script_named i in
    entered_case (i.once && is_among f.entered s) (unless_missing (lib.find s) i.optional (λ script.
    unless_active (is_among a s) (e script))) (unless_missing (lib.find s) i.optional (λ script.
    unless_active (is_among b s) (k script))) f
    (missing_case (lib.find s) i.optional (is_among a s) (is_among b s) e k f h)

module _ (c : Facts) (lib : Library) where
  -- includes of a script run alike after chains that agree on what it reaches
  pub included_alike : (left m : ℕ) → left ≤ m → (x : Commands) (a b : List ScriptName) → SameFor lib (suc m) x a b
      → RunsAlike (inclusion_within c lib left a) (inclusion_within c lib left b) (includes_of x)
  included_alike zero m le x a b same i is f = including_case lib a b (λ script g. Faults NestingTooDeep g) (λ script g.
      Faults NestingTooDeep g) i f (λ y there. (at_include lib m x y i a b is there same, λ g. refl))
  included_alike (suc left) zero le x a b same i is f = absurd (omega (arith, le))
  included_alike (suc left) (suc m) le x a b same i is f =
      let s = script_named i in
      including_case lib a b (λ script g.
      ending_of_include (run c (inclusion_within c lib left (s ∷ a)) script (with_entry s g))) (λ script g.
      ending_of_include (run c (inclusion_within c lib left (s ∷ b)) script (with_entry s g))) i f
      (λ y there. (
        at_include lib (suc m) x y i a b is there same,
        λ g. ap ending_of_include
            (run_alike c (inclusion_within c lib left (s ∷ a)) (inclusion_within c lib left (s ∷ b)) y
            (included_alike left m (omega (arith, le)) y (s ∷ a) (s
            ∷ b) (inside_include lib (suc m) x y i a b is there same)) (with_entry s g)),
      ))

module _ (lib : Library) where
  -- and they add the same to a path
  pub paths_alike : (left m : ℕ) → left ≤ m → (x : Commands) (a b : List ScriptName) → SameFor lib (suc m) x a b
      → SameAt (included_path lib left a) (included_path lib left b) (includes_of x)
  paths_alike zero m le x a b same i is = refl
  paths_alike (suc left) zero le x a b same i is = absurd (omega (arith, le))
  paths_alike (suc left) (suc m) le x a b same i is =
      let s = script_named i in
      path_case (lib.find s) (is_among a s) (is_among b s) (λ script.
      weight (included_path lib left (s ∷ a)) script + 1) (λ script.
      weight (included_path lib left (s ∷ b)) script + 1)
      (λ y there. (
        at_include lib (suc m) x y i a b is there same,
        ap (λ (n : ℕ).
            n + 1) (weight_alike (included_path lib left (s ∷ a)) (included_path lib left (s ∷ b)) y
            (paths_alike left m (omega (arith, le)) y (s ∷ a) (s
            ∷ b) (inside_include lib (suc m) x y i a b is there same))),
      ))

-- PROCEDURES

-- what the test says
pub shared_tests : (lib : Library) (p q : Procedure) → is_shared lib p q ≡ true → (same_first p.chain q.chain ≡ true)
    × (nat_eq p.left q.left ≡ true) × (are_among lib p.script p.chain q.chain ≡ true)
    × (are_among lib p.script q.chain p.chain ≡ true)
shared_tests lib p q shared =
    let last = and_parts (same_first p.chain q.chain && nat_eq p.left q.left && are_among lib p.script p.chain q.chain)
    (are_among lib p.script q.chain p.chain) shared in
    let third = and_parts (same_first p.chain q.chain && nat_eq p.left q.left) (are_among lib p.script p.chain q.chain) last.0 in
    let first = and_parts (same_first p.chain q.chain) (nat_eq p.left q.left) third.0 in
    (first.0, first.1, third.1, last.1)

module _ (lib : Library) (p q : Procedure) (same : p.script ≡ q.script) (few : p.left ≤ 7) (shared : is_shared lib p q ≡ true) where
  tests : (same_first p.chain q.chain ≡ true) × (nat_eq p.left q.left ≡ true)
      × (are_among lib p.script p.chain q.chain ≡ true) × (are_among lib p.script q.chain p.chain ≡ true)
  tests = shared_tests lib p q shared

  as_many : p.left ≡ q.left
  as_many = eqb-true p.left q.left tests.1

  pub shared_runs : (c : Facts) (f : Filing) → run c (inclusion_within c lib p.left p.chain) p.script f
      ≡ run c (inclusion_within c lib q.left q.chain) q.script f
  shared_runs c f =
      run_alike c (inclusion_within c lib p.left p.chain) (inclusion_within c lib p.left q.chain) p.script
      (included_alike c lib p.left 63 (omega (arith, few)) p.script p.chain q.chain
      (same_reached lib p.script p.chain q.chain tests.2 tests.3)) f
      ∙ ap (λ (n : ℕ). run c (inclusion_within c lib n q.chain) p.script f) as_many
      ∙ ap (λ (x : Commands). run c (inclusion_within c lib q.left q.chain) x f) same

  pub shared_path : weight (included_path lib p.left p.chain) p.script ≡ weight (included_path lib q.left q.chain) q.script
  shared_path =
      weight_alike (included_path lib p.left p.chain) (included_path lib p.left q.chain) p.script
      (paths_alike lib p.left 63 (omega (arith, few)) p.script p.chain q.chain
      (same_reached lib p.script p.chain q.chain tests.2 tests.3))
      ∙ ap (λ (n : ℕ). weight (included_path lib n q.chain) p.script) as_many
      ∙ ap (λ (x : Commands). weight (included_path lib q.left q.chain) x) same

pub sharing_law : SharingLaw
sharing_law lib p q same few shared = (shared_runs lib p q same few shared, shared_path lib p q same few shared)
