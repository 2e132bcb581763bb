-- Tables of path weights.
use Rattle.std.proofs.Common.{◌≡◌, ℕ, zero, suc, ◌+◌, ◌<◌, ◌≤◌, ◌^◌, List, [], ◌∷◌, ◌-◌, length, map, take, drop}
use Rattle.std.proofs.Common.{get_or, set, Bool, true, false, cond, Option, Some, None, refl, sym, ap, ◌∙◌, subst}
use Rattle.std.proofs.Common.{arith}
use Rattle.std.specs.Prelude.{nat_lt, slice_index}
use Rattle.std.specs.List.{All}
use Rattle.std.proofs.lemmas.Bool.{ltb-false, lt-ltb, le-ltb}
use Rattle.std.proofs.lemmas.List.{length-map, take_rest}
use Rattle.sieve_meaning.specs.Meaning.{Library}
use Rattle.sieve_meaning.specs.Program.{Commands}
use Rattle.sieve_meaning.specs.Procedures.{Procedure, procedures, path_weight}
use Rattle.sieve_meaning.proofs.ProcedureLemmas.{after_main}
use Rattle.sieve_library.specs.Libraries.{Scripts}
use Rattle.filing_procedures.specs.Keys.{IsKeyOf}
use Rattle.filing_procedures.specs.ProcedureCode.{procedure_of, IsEntered, HaveKeys}
use Rattle.filing_procedures.specs.declared.procedure.Procedure as code
use Rattle.filing_gen.specs.Procedures.{path_weights}
use Rattle.filing_gen.specs.Paths.{known_path, path_from}
use Rattle.filing_gen.specs.Numbers.{number_at}
use Rattle.filing_gen.proofs.PathLemmas.{path_first}

-- ONE WEIGHT

pub known_below : (w : ℕ) → w < 2 ^ 32 → known_path w ≡ Some w
known_below w lt = ap (λ (b : Bool). cond b (Some w) None) (lt-ltb w (2 ^ 32) lt)

pub known_above : (w : ℕ) → 2 ^ 32 ≤ w → known_path w ≡ None
known_above w le = ap (λ (b : Bool). cond b (Some w) None) (le-ltb w (2 ^ 32) le)

pub none_known : (w : ℕ) → None ≡ known_path w → 2 ^ 32 ≤ w
none_known w is = by (nat_lt w (2 ^ 32)) refl is
  where
    by : (b : Bool) → nat_lt w (2 ^ 32) ≡ b → None ≡ cond b (Some w) None → 2 ^ 32 ≤ w
    by true test h = absurd (cc h)
    by false test h = ltb-false w (2 ^ 32) test

pub some_known : (w v : ℕ) → Some v ≡ known_path w → v ≡ w
some_known w v is = by (nat_lt w (2 ^ 32)) is
  where
    by : (b : Bool) → Some v ≡ cond b (Some w) None → v ≡ w
    by true h = cc h
    by false h = absurd (cc h)

-- TABLES

pub weights_long : (lib : Library) (ps : List Procedure) → length (path_weights lib ps) ≡ length ps
weights_long lib [] = refl
weights_long lib (p ∷ ps) = ap suc (weights_long lib ps)

known_at : (ws : List ℕ) (n : ℕ) → n < length ws → number_at (map known_path ws) n ≡ known_path (slice_index ws n)
known_at [] n h = absurd (omega (arith, h))
known_at (w ∷ ws) zero h = refl
known_at (w ∷ ws) (suc n) h = known_at ws n (omega (arith, h))

-- the table of the weights of these procedures
module _ (lib : Library) (ps : List code.Procedure) (table : List (Option ℕ)) (is : table
    ≡ map known_path (path_weights lib (map procedure_of ps))) where
  pub table_at : (n : ℕ) → n < length ps → number_at table n ≡ known_path (slice_index (path_weights lib (map procedure_of ps)) n)
  table_at n h = ap (λ (t : List (Option ℕ)). number_at t n) is
      ∙ known_at (path_weights lib (map procedure_of ps)) n (omega (
        arith,
        h,
        weights_long lib (map procedure_of ps),
        length-map ps procedure_of,
      ))

  first_of : (ws : List ℕ) (w : ℕ) (rest : List ℕ) → ws ≡ w ∷ rest → number_at (map known_path ws) 0 ≡ known_path w
  first_of ws w rest e = ap (λ (l : List ℕ). number_at (map known_path l) 0) e

  -- the main script's weight stands first
  pub table_first : (known_as : Option (List ℕ)) (main : Commands) → map procedure_of ps ≡ procedures lib known_as main
      → number_at table 0 ≡ known_path (path_weight lib known_as main)
  table_first known_as main are =
      ap (λ (t : List (Option ℕ)). number_at t 0) is
      ∙ first_of (path_weights lib (map procedure_of ps)) (path_weight lib known_as main)
      (path_weights lib (after_main lib known_as main)) (ap (λ (l : List Procedure). path_weights lib l) are
      ∙ path_first lib known_as main)

-- ONE MORE PROCEDURE, FROM THE LAST ONE ON

pub rest_of : {A : Type 0} (xs : List A) (n : ℕ) → 0 < n → n ≤ length xs → take (length xs - (n - 1 + 1)) (drop (n - 1 + 1) xs) ≡ drop n xs
rest_of xs n first inside =
    let e : n - 1 + 1 ≡ n = omega arith in
    ap (λ (k : ℕ). take (length xs - k) (drop k xs)) e ∙ take_rest xs n

drop_set : {A : Type 0} (xs : List A) (m : ℕ) (v : A) → m < length xs → drop m (set xs m v) ≡ v ∷ drop (suc m) xs
drop_set [] m v h = absurd (omega (arith, h))
drop_set (x ∷ xs) zero v h = refl
drop_set (x ∷ xs) (suc m) v h = drop_set xs m v (omega (arith, h))

drop_at : {A : Type 0} (xs : List A) (m : ℕ) (x : A) → m < length xs → x ≡ get_or xs m x → drop m xs ≡ x ∷ drop (suc m) xs
drop_at [] m x h is = absurd (omega (arith, h))
drop_at (y ∷ ys) zero x h is = ap (λ z. z ∷ ys) (sym is)
drop_at (y ∷ ys) (suc m) x h is = drop_at ys m x (omega (arith, h)) is

module _ (lib : Library) (ps : List code.Procedure) (table : List (Option ℕ)) (n : ℕ) (first : 0 < n)
    (inside : n ≤ length ps) (long : length table ≡ length ps) (known : drop n table
    ≡ map known_path (path_weights lib (map procedure_of (drop n ps)))) where
  abbrev m : ℕ
  m = n - 1

  next : suc m ≡ n
  next = omega arith

  pub weight_more : (p : code.Procedure) (path : Option ℕ) → p ≡ get_or ps m p
      → path ≡ known_path (path_from lib (map procedure_of (drop n ps)) (procedure_of p))
      → drop m (set table m path) ≡ map known_path (path_weights lib (map procedure_of (drop m ps)))
  weight_more p path at is =
      drop_set table m path (omega (arith, long, next))
      ∙ ap (λ (k : ℕ). path ∷ drop k table) next
      ∙ ap (λ (t : List (Option ℕ)). path ∷ t) known
      ∙ ap (λ (o : Option ℕ). o ∷ map known_path (path_weights lib (map procedure_of (drop n ps)))) is
      ∙ ap (λ (k : ℕ). map known_path (path_weights lib (map procedure_of (p ∷ drop k ps)))) (sym next)
      ∙ ap (λ (l : List code.Procedure). map known_path (path_weights lib (map procedure_of l))) (sym (drop_at ps m p (omega (arith, next)) at))

-- KEYS

all_drop : (P : code.Procedure → Type 0) (xs : List code.Procedure) (i : ℕ) → All P xs → All P (drop i xs)
all_drop P xs zero h = h
all_drop P [] (suc i) h = h
all_drop P (x ∷ xs) (suc i) h = all_drop P xs i (λ k d lt. h (suc k) d (omega (arith, lt)))

module _ (l : Scripts) where
  key_in : (ps : List code.Procedure) → HaveKeys l ps → (i : ℕ) (d : code.Procedure) → i < length ps
      → IsKeyOf l (get_or ps i d).key (procedure_of (get_or ps i d))
  key_in [] h i d lt = absurd (omega (arith, lt))
  key_in (p ∷ later) h zero d lt = h.0
  key_in (p ∷ later) h (suc i) d lt = (h.1 i d (omega (arith, lt))).of

  pub key_at : (ps : List code.Procedure) → HaveKeys l ps → (i : ℕ) (p : code.Procedure) → i < length ps
      → p ≡ get_or ps i p → IsKeyOf l p.key (procedure_of p)
  key_at ps h i p lt is = subst (λ (q : code.Procedure). IsKeyOf l q.key (procedure_of q)) (sym is) (key_in ps h i p lt)

  pub later_entered : (ps : List code.Procedure) → HaveKeys l ps → (i : ℕ) → All (IsEntered l) (drop (suc i) ps)
  later_entered [] h i = λ k d lt. absurd (omega (arith, lt))
  later_entered (p ∷ later) h i = all_drop (IsEntered l) later i h.1
