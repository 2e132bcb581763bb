-- Names of header fields that a test names once.
use Rattle.std.proofs.Common.{◌≡◌, ℕ, ◌≤◌, List, [], ◌∷◌, length, Bool, true, false, not, ◌&&◌, ◌||◌, cond, Ordering}
use Rattle.std.proofs.Common.{Less, Equal, Greater, nat_cmp, refl, sym, ap, ◌∙◌, arith}
use Rattle.std.specs.List.{list_any, list_all, filter}
use Rattle.std.specs.Str.{bytes_eq, str_to_ascii_lowercase}
use Rattle.std.proofs.lemmas.Slice.Eq.{bytes_eq-Decides}
use Rattle.sieve_meaning.specs.Words.{same_word}
use Rattle.sieve_meaning.specs.Case.{Field, is_named}
use Rattle.filing_gen.specs.Names.{each_once, others_once, has_name}
use Rattle.std.specs.Prelude.{Vec}
use Rattle.std.specs.declared.alloc.Global.{Global}
use Rattle.std.specs.Cmp.{both_ways}
use Rattle.std.specs.Cmp.Lexicographic.{slice_cmp}
use Rattle.std.specs.Ordering.{is_eq, match_ordering}
use Rattle.std.specs.BTreeMap.{is_at}
use Rattle.std.specs.BTreeSet.{insert_key}
use Rattle.std.proofs.lemmas.Map.Lookups.{exact_bytes}
use Rattle.std.proofs.lemmas.Map.Text.{is_eq-slice_cmp}

-- names that are equal without case are in lower case the same
pub same_lowercase : (a b : List ℕ) → same_word a b ≡ true → str_to_ascii_lowercase a ≡ str_to_ascii_lowercase b
same_lowercase a b same = (bytes_eq-Decides (str_to_ascii_lowercase a) (str_to_ascii_lowercase b)).0 same

-- and name the same fields
pub same_named : (f : Field) (a b : List ℕ) → same_word a b ≡ true → is_named a f ≡ is_named b f
same_named f a b same = ap (λ l. bytes_eq (str_to_ascii_lowercase f.name) l) (same_lowercase a b same)

-- THE NAMES SO FAR

same_both_ways : (a b : List ℕ) → bytes_eq a b ≡ bytes_eq b a
same_both_ways a b =
    both_ways (bytes_eq a b) (bytes_eq b a) (λ e. (bytes_eq-Decides b a).1 (sym ((bytes_eq-Decides a b).0 e))) (λ e.
    (bytes_eq-Decides a b).1 (sym ((bytes_eq-Decides b a).0 e)))

-- what a look-up in the set finds
pub has_is : (key : Vec ℕ Global) (name : List ℕ) → key.items ≡ str_to_ascii_lowercase name
    → (keys : List (Vec ℕ Global)) → list_any (is_at (λ (k : Vec ℕ Global). slice_cmp nat_cmp key.items k.items)) keys
    ≡ has_name keys name
has_is key name lower [] = refl
has_is key name lower (k ∷ keys) =
    let here : is_eq (slice_cmp nat_cmp key.items k.items) ≡ bytes_eq (str_to_ascii_lowercase name) k.items =
    is_eq-slice_cmp key.items k.items ∙ ap (λ (t : List ℕ). bytes_eq t k.items) lower in
    ap (λ b. b || list_any (is_at (λ (j : Vec ℕ Global). slice_cmp nat_cmp key.items j.items)) keys) here
    ∙ ap (λ b. bytes_eq (str_to_ascii_lowercase name) k.items || b) (has_is key name lower keys)

or_swap : (a b d : Bool) → (a || (b || d)) ≡ (b || (a || d))
or_swap true true d = refl
or_swap true false d = refl
or_swap false b d = refl

or_twice : (a b d : Bool) → a ≡ b → (a || d) ≡ (b || (a || d))
or_twice true b d same = rw (← same) refl
or_twice false b d same = rw (← same) refl

-- what an insert into the set finds
pub has_more : (key : Vec ℕ Global) (name : List ℕ) → key.items ≡ str_to_ascii_lowercase name
    → (m : List ℕ) (keys : List (Vec ℕ Global))
    → has_name (insert_key (λ (x y : Vec ℕ Global). slice_cmp nat_cmp x.items y.items) keys key) m
    ≡ (same_word name m || has_name keys m)
has_more key name lower m [] = ap (λ b. b || false) (same_both_ways (str_to_ascii_lowercase m) key.items
    ∙ ap (λ (t : List ℕ). bytes_eq t (str_to_ascii_lowercase m)) lower)
has_more key name lower m (k ∷ keys) =
    by (slice_cmp nat_cmp key.items k.items) refl (same_both_ways (str_to_ascii_lowercase m) key.items
    ∙ ap (λ (t : List ℕ). bytes_eq t (str_to_ascii_lowercase m)) lower) (has_more key name lower m keys)
  where
    by : (o : Ordering) → slice_cmp nat_cmp key.items k.items ≡ o → bytes_eq (str_to_ascii_lowercase m) key.items ≡ same_word name m
        → has_name (insert_key (λ (x y : Vec ℕ Global). slice_cmp nat_cmp x.items y.items) keys key) m ≡ (same_word name m || has_name keys m)
        → has_name (match_ordering o (key ∷ k ∷ keys) (k ∷ keys) (k ∷ insert_key (λ (x y : Vec ℕ Global).
        slice_cmp nat_cmp x.items y.items) keys key)) m ≡ (same_word name m || has_name (k ∷ keys) m)
    by Less is here more = ap (λ b. b || has_name (k ∷ keys) m) here
    by Equal is here more =
        let same : key.items ≡ k.items = exact_bytes key.items k.items is in
        or_twice (bytes_eq (str_to_ascii_lowercase m) k.items) (same_word name m) (has_name keys m) (ap (λ (t : List ℕ).
        bytes_eq (str_to_ascii_lowercase m) t) (sym same) ∙ here)
    by Greater is here more = ap (λ b. bytes_eq (str_to_ascii_lowercase m) k.items || b) more
        ∙ or_swap (bytes_eq (str_to_ascii_lowercase m) k.items) (same_word name m) (has_name keys m)

-- TESTS OF NAMES

module _ (p : List ℕ → Bool) (respects : (a b : List ℕ) → same_word a b ≡ true → p a ≡ p b) where
  some_step : (n m : List ℕ) (rest others : Bool) (b : Bool) → same_word n m ≡ b → (p n || rest) ≡ (p n || others)
      → (p n || cond (not b) (p m || rest) rest) ≡ (p n || (p m || others))
  some_step n m rest others true same e = by (p n) (p m) (respects n m same) rest others e where
    by : (x y : Bool) → x ≡ y → (r o : Bool) → (x || r) ≡ (x || o) → (x || r) ≡ (x || (y || o))
    by true y is r o e = refl
    by false true is r o e = absurd (cc is)
    by false false is r o e = e
  some_step n m rest others false same e = by (p n) (p m) rest others e where
    by : (x y r o : Bool) → (x || r) ≡ (x || o) → (x || (y || r)) ≡ (x || (y || o))
    by true y r o e = refl
    by false true r o e = refl
    by false false r o e = e

  any_filter : (n m : List ℕ) (ms : List (List ℕ)) (b : Bool) → list_any p (cond b (m ∷ ms) ms) ≡ cond b (p m || list_any p ms) (list_any p ms)
  any_filter n m ms true = refl
  any_filter n m ms false = refl

  some_apart : (n : List ℕ) (ms : List (List ℕ)) → (p n || list_any p (filter (λ m. not (same_word n m)) ms)) ≡ (p n || list_any p ms)
  some_apart n [] = refl
  some_apart n (m ∷ ms) =
      let rest = filter (λ m. not (same_word n m)) ms in
      ap (λ b. p n || b) (any_filter n m rest (not (same_word n m)))
      ∙ some_step n m (list_any p rest) (list_any p ms) (same_word n m) refl (some_apart n ms)

  pub some_once : (ns : List (List ℕ)) → list_any p (each_once ns) ≡ list_any p ns
  some_once [] = refl
  some_once (n ∷ ns) = some_apart n (each_once ns) ∙ ap (λ b. p n || b) (some_once ns)

  every_step : (n m : List ℕ) (rest others : Bool) (b : Bool) → same_word n m ≡ b → (p n && rest) ≡ (p n && others)
      → (p n && cond (not b) (p m && rest) rest) ≡ (p n && (p m && others))
  every_step n m rest others true same e = by (p n) (p m) (respects n m same) rest others e where
    by : (x y : Bool) → x ≡ y → (r o : Bool) → (x && r) ≡ (x && o) → (x && r) ≡ (x && (y && o))
    by false y is r o e = refl
    by true false is r o e = absurd (cc is)
    by true true is r o e = e
  every_step n m rest others false same e = by (p n) (p m) rest others e where
    by : (x y r o : Bool) → (x && r) ≡ (x && o) → (x && (y && r)) ≡ (x && (y && o))
    by false y r o e = refl
    by true false r o e = refl
    by true true r o e = e

  every_filter : (n m : List ℕ) (ms : List (List ℕ)) (b : Bool) → list_all p (cond b (m ∷ ms) ms) ≡ cond b (p m && list_all p ms) (list_all p ms)
  every_filter n m ms true = refl
  every_filter n m ms false = refl

  every_apart : (n : List ℕ) (ms : List (List ℕ)) → (p n && list_all p (filter (λ m. not (same_word n m)) ms)) ≡ (p n && list_all p ms)
  every_apart n [] = refl
  every_apart n (m ∷ ms) =
      let rest = filter (λ m. not (same_word n m)) ms in
      ap (λ b. p n && b) (every_filter n m rest (not (same_word n m)))
      ∙ every_step n m (list_all p rest) (list_all p ms) (same_word n m) refl (every_apart n ms)

  pub every_once : (ns : List (List ℕ)) → list_all p (each_once ns) ≡ list_all p ns
  every_once [] = refl
  every_once (n ∷ ns) = every_apart n (each_once ns) ∙ ap (λ b. p n && b) (every_once ns)

-- HOW MANY

fewer : (p : List ℕ → Bool) (ns : List (List ℕ)) → length (filter p ns) ≤ length ns
fewer p [] = omega arith
fewer p (n ∷ ns) = by (p n) (fewer p ns) where
  by : (b : Bool) → length (filter p ns) ≤ length ns → length (cond b (n ∷ filter p ns) (filter p ns)) ≤ length (n ∷ ns)
  by true h = omega (arith, h)
  by false h = omega (arith, h)

pub once_fewer : (ns : List (List ℕ)) → length (each_once ns) ≤ length ns
once_fewer [] = omega arith
once_fewer (n ∷ ns) = omega (arith, fewer (λ m. not (same_word n m)) (each_once ns), once_fewer ns)

pub others_fewer : (n : List ℕ) (ns : List (List ℕ)) → length (others_once n ns) ≤ length ns
others_fewer n ns = omega (arith, fewer (λ m. not (same_word n m)) (each_once ns), once_fewer ns)

-- TURNS OF A LOOP OVER NAMES

-- the names so far, as a set in lower case and as a list
abbrev pub AreAsked : List (Vec ℕ Global) → List (List ℕ) → Type 0
AreAsked lowercase seen = (m : List ℕ) → has_name lowercase m ≡ list_any (λ n. same_word n m) seen

-- those of the names that are equal to none of these
abbrev pub apart_from : List (List ℕ) → List (List ℕ) → List (List ℕ)
apart_from seen ns = filter (λ m. not (list_any (λ n. same_word n m) seen)) ns

filter_twice : (seen : List (List ℕ)) (n : List ℕ) (ms : List (List ℕ))
    → apart_from seen (filter (λ m. not (same_word n m)) ms) ≡ apart_from (n ∷ seen) ms
filter_twice seen n [] = refl
filter_twice seen n (m ∷ ms) = by (same_word n m) (list_any (λ k. same_word k m) seen) refl refl (filter_twice seen n ms) where
  by : (a b : Bool) → same_word n m ≡ a → list_any (λ k. same_word k m) seen ≡ b
      → apart_from seen (filter (λ k. not (same_word n k)) ms) ≡ apart_from (n ∷ seen) ms
      → apart_from seen (cond (not (same_word n m)) (m ∷ filter (λ k. not (same_word n k)) ms) (filter (λ k.
      not (same_word n k)) ms)) ≡ cond (not (same_word n m || list_any (λ k. same_word k m) seen)) (m
      ∷ apart_from (n ∷ seen) ms) (apart_from (n ∷ seen) ms)
  by true b e f h = rw e h
  by false true e f h = rw (e, f) h
  by false false e f h = rw (e, f) (ap (λ l. m ∷ l) h)

-- a name before others, which is left out where one of these is equal to it
pub once_turn : (seen : List (List ℕ)) (n : List ℕ) (ns : List (List ℕ)) (b : Bool)
    → list_any (λ k. same_word k n) seen ≡ b
    → apart_from seen (each_once (n ∷ ns))
    ≡ cond b (apart_from (n ∷ seen) (each_once ns)) (n ∷ apart_from (n ∷ seen) (each_once ns))
once_turn seen n ns true e = rw e (filter_twice seen n (each_once ns))
once_turn seen n ns false e = rw e (ap (λ l. n ∷ l) (filter_twice seen n (each_once ns)))

-- the others after a first name
only_first : (n : List ℕ) (ms : List (List ℕ)) → apart_from (n ∷ []) ms ≡ filter (λ m. not (same_word n m)) ms
only_first n [] = refl
only_first n (m ∷ ms) =
    elim (same_word n m) as (λ b. cond (not (b || false)) (m ∷ apart_from (n ∷ []) ms) (apart_from (n ∷ []) ms)
    ≡ cond (not b) (m ∷ filter (λ k. not (same_word n k)) ms) (filter (λ k. not (same_word n k)) ms))
    [ true ↦ only_first n ms | false ↦ ap (λ l. m ∷ l) (only_first n ms) ]

pub others_apart : (n : List ℕ) (ns : List (List ℕ)) → apart_from (n ∷ []) (each_once ns) ≡ others_once n ns
others_apart n ns = only_first n (each_once ns)
