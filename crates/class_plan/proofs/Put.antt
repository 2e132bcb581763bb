-- A class that is put at its place: which paths and classes the rows then have.
use Rattle.std.proofs.Common.{◌≡◌, ℕ, suc, ◌≤◌, Bool, true, false, ◌||◌, cond, List, [], ◌∷◌, length, Option, Some, None, is_some, option_map}
use Rattle.std.proofs.Common.{unwrap_or, Ordering, Less, Equal, Greater, nat_cmp, is_eq, refl, ap, sym, ◌∙◌, arith}
use Rattle.std.proofs.lemmas.Map.Text.{is_eq-slice_cmp}
use Rattle.std.proofs.lemmas.Slice.Eq.{bytes_eq-Decides}
use Rattle.std.specs.Str.{bytes_eq}
use Rattle.std.specs.List.{AllByRecursion}
use Rattle.std.specs.Cmp.Lexicographic.{slice_cmp}
use Rattle.std.specs.Ordering.{match_ordering}
use Rattle.class_plan.specs.Plans.{Row, row_at, has, with_row, open_at}

abbrev pub changed : Row → Row → Row
changed r x = record { path = x.path; is_open = r.is_open; schedule = r.schedule }

-- paths that compare as equal are equal
pub same-path : (a b : List ℕ) → Equal ≡ slice_cmp nat_cmp a b → b ≡ a
same-path a b e =
    let h : bytes_eq a b ≡ true = sym (is_eq-slice_cmp a b) ∙ ap is_eq (sym e) in
    sym ((bytes_eq-Decides a b).0 h)

changed-is : (r x : Row) → Equal ≡ slice_cmp nat_cmp r.path x.path → changed r x ≡ r
changed-is r x e = rw (same-path r.path x.path e)

-- the three cases of a put, where an equal path is the row's own
abbrev pub placed : Ordering → Row → Row → List Row → List Row
placed o r x xs = match_ordering o (r ∷ x ∷ xs) (r ∷ xs) (x ∷ with_row r xs)

put-placed : (r x : Row) (xs : List Row) (o : Ordering) → o ≡ slice_cmp nat_cmp r.path x.path
    → match_ordering o (r ∷ x ∷ xs) (changed r x ∷ xs) (x ∷ with_row r xs) ≡ placed o r x xs
put-placed r x xs Less e = refl
put-placed r x xs Equal e = ap (λ y. y ∷ xs) (changed-is r x e)
put-placed r x xs Greater e = refl

pub put-cons : (r x : Row) (xs : List Row) → with_row r (x ∷ xs) ≡ placed (slice_cmp nat_cmp r.path x.path) r x xs
put-cons r x xs = put-placed r x xs (slice_cmp nat_cmp r.path x.path) refl

-- a value for each path, by the row of its class, and another value for a path of no class
module _ {A : Type 0} (said : Row → A) (no : A) where
  abbrev pub say : List ℕ → List Row → A
  say q rs = unwrap_or (option_map said (row_at q rs)) no

  say_head : (b : Bool) (r : Row) (d : Option Row) → unwrap_or (option_map said (cond b (Some r) d)) no
      ≡ cond b (said r) (unwrap_or (option_map said d) no)
  say_head true r d = refl
  say_head false r d = refl

  pub say-cons : (q : List ℕ) (x : Row) (xs : List Row) → say q (x ∷ xs) ≡ cond (bytes_eq q x.path) (said x) (say q xs)
  say-cons q x xs = say_head (bytes_eq q x.path) x (row_at q xs)

  cond_same : (b : Bool) (x y z : A) → cond b x z ≡ cond b x (cond b y z)
  cond_same true x y z = refl
  cond_same false x y z = refl

  cond_apart : (a b : Bool) (x y z : A) → (a ≡ true → b ≡ true → ⊥) → cond a x (cond b y z) ≡ cond b y (cond a x z)
  cond_apart true true x y z h = absurd (h refl refl)
  cond_apart true false x y z h = refl
  cond_apart false true x y z h = refl
  cond_apart false false x y z h = refl

  not_both : (q a b : List ℕ) → Greater ≡ slice_cmp nat_cmp a b → bytes_eq q b ≡ true → bytes_eq q a ≡ true → ⊥
  not_both q a b e h k =
      let qb : q ≡ b = (bytes_eq-Decides q b).0 h in
      let qa : q ≡ a = (bytes_eq-Decides q a).0 k in
      let ab : a ≡ b = sym qa ∙ qb in
      let t : bytes_eq a b ≡ true = (bytes_eq-Decides a b).1 ab in
      let f : is_eq (slice_cmp nat_cmp a b) ≡ false = ap is_eq (sym e) in
      let g : true ≡ false = sym t ∙ sym (is_eq-slice_cmp a b) ∙ f in
      cc

  same_test : (q a b : List ℕ) → Equal ≡ slice_cmp nat_cmp a b → bytes_eq q a ≡ bytes_eq q b
  same_test q a b e = ap (bytes_eq q) (sym (same-path a b e))

  say_placed : (q : List ℕ) (r x : Row) (xs : List Row) (o : Ordering) → o ≡ slice_cmp nat_cmp r.path x.path
      → say q (with_row r xs) ≡ cond (bytes_eq q r.path) (said r) (say q xs)
      → say q (placed o r x xs) ≡ cond (bytes_eq q r.path) (said r) (say q (x ∷ xs))
  say_placed q r x xs Less e ih = say-cons q r (x ∷ xs)
  say_placed q r x xs Equal e ih =
      say-cons q r xs ∙ cond_same (bytes_eq q r.path) (said r) (said x) (say q xs)
      ∙ ap (λ b. cond (bytes_eq q r.path) (said r) (cond b (said x) (say q xs))) (same_test q r.path x.path e)
      ∙ ap (cond (bytes_eq q r.path) (said r)) (sym (say-cons q x xs))
  say_placed q r x xs Greater e ih =
      say-cons q x (with_row r xs) ∙ ap (cond (bytes_eq q x.path) (said x)) ih
      ∙ cond_apart (bytes_eq q x.path) (bytes_eq q r.path) (said x) (said r) (say q xs) (not_both q r.path x.path e)
      ∙ ap (cond (bytes_eq q r.path) (said r)) (sym (say-cons q x xs))

  -- the value for a path after a class is put
  pub say-put : (q : List ℕ) (r : Row) (xs : List Row) → say q (with_row r xs) ≡ cond (bytes_eq q r.path) (said r) (say q xs)
  say-put q r [] = say-cons q r []
  say-put q r (x ∷ xs) = ap (say q) (put-cons r x xs) ∙ say_placed q r x xs (slice_cmp nat_cmp r.path x.path) refl (say-put q r xs)

has-say : (q : List ℕ) (rs : List Row) (o : Option Row) → is_some o ≡ unwrap_or (option_map (λ (r : Row). true) o) false
has-say q rs None = refl
has-say q rs (Some r) = refl

cond_or : (b s : Bool) → cond b true s ≡ (b || s)
cond_or true s = refl
cond_or false s = refl

-- which paths the rows have after a class is put
pub has-put : (q : List ℕ) (r : Row) (xs : List Row) → has (with_row r xs) q ≡ (bytes_eq q r.path || has xs q)
has-put q r xs =
    has-say q xs (row_at q (with_row r xs)) ∙ say-put (λ r. true) false q r xs
    ∙ ap (cond (bytes_eq q r.path) true) (sym (has-say q xs (row_at q xs))) ∙ cond_or (bytes_eq q r.path) (has xs q)

pub open-put : (q : List ℕ) (r : Row) (xs : List Row) → open_at (with_row r xs) q ≡ cond (bytes_eq q r.path) r.is_open (open_at xs q)
open-put q r xs = say-put (λ r. r.is_open) false q r xs

all_placed : (P : Row → Type 0) (r x : Row) (xs : List Row) (o : Ordering) → P r → P x → AllByRecursion P xs
    → AllByRecursion P (with_row r xs) → AllByRecursion P (placed o r x xs)
all_placed P r x xs Less pr px h ih = (pr, (px, h))
all_placed P r x xs Equal pr px h ih = (pr, h)
all_placed P r x xs Greater pr px h ih = (px, ih)

-- what is true of each row is so after such a class is put
pub all-put : (P : Row → Type 0) (r : Row) (xs : List Row) → P r → AllByRecursion P xs → AllByRecursion P (with_row r xs)
all-put P r [] pr h = (pr, tt)
all-put P r (x ∷ xs) pr h = rw (put-cons r x xs) (all_placed P r x xs (slice_cmp nat_cmp r.path x.path) pr h.0 h.1 (all-put P r xs pr h.1))

length_placed : (r x : Row) (xs : List Row) (o : Ordering) → length (with_row r xs) ≤ suc (length xs)
    → length (placed o r x xs) ≤ suc (suc (length xs))
length_placed r x xs Less h = omega arith
length_placed r x xs Equal h = omega arith
length_placed r x xs Greater h = omega arith

pub length-put : (r : Row) (xs : List Row) → length (with_row r xs) ≤ suc (length xs)
length-put r [] = omega arith
length-put r (x ∷ xs) = rw (put-cons r x xs) (length_placed r x xs (slice_cmp nat_cmp r.path x.path) (length-put r xs))
