-- Things that are added at the next place.
use Rattle.std.proofs.Common.{◌≡◌, ◌⊎◌, ℕ, zero, suc, ◌+◌, ◌<◌, ◌^◌, List, [], ◌∷◌, length, map, get_or, All, Some}
use Rattle.std.proofs.Common.{None, set, Vec, Ordering, Less, Equal, Greater, nat_cmp, inl, inr, refl, sym, ap, ◌∙◌}
use Rattle.std.proofs.Common.{subst, arith}
use Rattle.std.specs.Prelude.{slice_get}
use Rattle.std.specs.declared.alloc.Global.{Global}
use Rattle.std.specs.Map.{lookup}
use Rattle.std.specs.Ordering.{match_ordering}
use Rattle.std.specs.BTreeMap.{is_at, insert_entry}
use Rattle.std.proofs.lemmas.Bool.{cases_lt, cases_order}
use Rattle.std.specs.Cmp.{Equal-is, nat_cmp_is}
use Rattle.std.specs.Cmp.Lexicographic.{slice_cmp}
use Rattle.std.proofs.lemmas.List.{length-map, length-set, map-set}
use Rattle.std.proofs.lemmas.Option.{slice_get_within}
use Rattle.std.proofs.lemmas.Map.Lookups.{exact_bytes, exact_unsigned}
use Rattle.std.proofs.lemmas.Map.Text.{is_eq-slice_cmp}
use Rattle.std.proofs.lemmas.Slice.Eq.{bytes_eq-Decides}
use Rattle.filing_gen.specs.Pools.{IsAmong, IsNumbered, AreTexts, Admits, IsOnce, octets_of, texts_in}

-- LISTS

pub among_map : {A B : Type 0} (f : A → B) (x : A) (xs : List A) → IsAmong x xs → IsAmong (f x) (map f xs)
among_map f x [] h = h
among_map f x (y ∷ ys) (inl e) = inl (ap f e)
among_map f x (y ∷ ys) (inr h) = inr (among_map f x ys h)

-- KEYS WITH THEIR PLACES, as they stand in a map, and as they are seen

module _ {K A : Type 0} (view : K → A) where
  abbrev pub seen : List (K × ℕ) → List (A × ℕ)
  seen es = map (λ e. (view e.0, e.1)) es

  module _ (compare : K → Ordering) (x : A) (equal : (k : K) → compare k ≡ Equal → view k ≡ x) where
    -- what a look-up finds
    pub found_there : (es : List (K × ℕ)) (b : ℕ) → lookup (is_at compare) es ≡ Some b → IsAmong (x, b) (seen es)
    found_there [] b h = absurd (cc h)
    found_there (e ∷ es) b h = by (compare e.0) refl (found_there es b) where
      by : (o : Ordering) → compare e.0 ≡ o → (lookup (is_at compare) es ≡ Some b → IsAmong (x, b) (seen es)) → IsAmong (x, b) (seen (e ∷ es))
      by Less is more = inr (more (rw is at h))
      by Equal is more =
          let at : Some e.1 ≡ Some b = rw is at h in
          let same : e.1 ≡ b = cc at in
          let name : view e.0 ≡ x = equal e.0 is in
          inl (ap (λ a. (a, e.1)) name ∙ ap (λ n. (x, n)) same)
      by Greater is more = inr (more (rw is at h))

  module _ (compare : K → Ordering) (x : A) (equal : (k : K) → view k ≡ x → compare k ≡ Equal) where
    -- what a look-up does not find is not there
    pub missing_there : (es : List (K × ℕ)) (b : ℕ) → lookup (is_at compare) es ≡ None → IsAmong (x, b) (seen es) → ⊥
    missing_there [] b h at = at
    missing_there (e ∷ es) b h at = by (compare e.0) refl at (missing_there es b) where
      by : (o : Ordering) → compare e.0 ≡ o → IsAmong (x, b) (seen (e ∷ es)) → (lookup (is_at compare) es ≡ None → IsAmong (x, b) (seen es) → ⊥) → ⊥
      by Less is (inl here) more = let name : view e.0 ≡ x = ap (λ p. p.0) here in absurd (cc (is, equal e.0 name))
      by Less is (inr there) more = more (rw is at h) there
      by Equal is here more = let no : Some e.1 ≡ None = rw is at h in absurd (cc no)
      by Greater is (inl here) more = let name : view e.0 ≡ x = ap (λ p. p.0) here in absurd (cc (is, equal e.0 name))
      by Greater is (inr there) more = more (rw is at h) there

  -- an insert of a new key
  module _ (cmp : K → K → Ordering) (k : K) (v : ℕ) where
    pub insert_there : (es : List (K × ℕ)) → lookup (is_at (cmp k)) es ≡ None → IsAmong (view k, v) (seen (insert_entry cmp es k v))
    insert_there [] none = inl refl
    insert_there (e ∷ es) none = by (cmp k e.0) refl (insert_there es) where
      by : (o : Ordering) → cmp k e.0 ≡ o
          → (lookup (is_at (cmp k)) es ≡ None → IsAmong (view k, v) (seen (insert_entry cmp es k v)))
          → IsAmong (view k, v)
          (seen (match_ordering o ((k, v) ∷ e ∷ es) ((e.0, v) ∷ es) (e ∷ insert_entry cmp es k v)))
      by Less is more = inl refl
      by Equal is more = let no : Some e.1 ≡ None = rw is at none in absurd (cc no)
      by Greater is more = inr (more (rw is at none))

    pub insert_kept : (es : List (K × ℕ)) → lookup (is_at (cmp k)) es ≡ None → (x : A) (b : ℕ)
        → IsAmong (x, b) (seen es) → IsAmong (x, b) (seen (insert_entry cmp es k v))
    insert_kept [] none x b h = absurd h
    insert_kept (e ∷ es) none x b h = by (cmp k e.0) refl h (λ missing. insert_kept es missing x b) where
      by : (o : Ordering) → cmp k e.0 ≡ o → IsAmong (x, b) (seen (e ∷ es))
          → (lookup (is_at (cmp k)) es ≡ None → IsAmong (x, b) (seen es)
          → IsAmong (x, b) (seen (insert_entry cmp es k v)))
          → IsAmong (x, b) (seen (match_ordering o ((k, v) ∷ e ∷ es) ((e.0, v) ∷ es) (e ∷ insert_entry cmp es k v)))
      by Less is at more = inr at
      by Equal is at more = let no : Some e.1 ≡ None = rw is at none in absurd (cc no)
      by Greater is (inl here) more = inl here
      by Greater is (inr there) more = inr (more (rw is at none) there)

    pub insert_only : (es : List (K × ℕ)) → lookup (is_at (cmp k)) es ≡ None → (x : A) (b : ℕ)
        → IsAmong (x, b) (seen (insert_entry cmp es k v))
        → (◌≡◌ {A = A × ℕ} (view k, v) (x, b)) ⊎ IsAmong (x, b) (seen es)
    insert_only [] none x b (inl e) = inl e
    insert_only [] none x b (inr h) = absurd h
    insert_only (e ∷ es) none x b h = by (cmp k e.0) refl h (λ missing. insert_only es missing x b) where
      by : (o : Ordering) → cmp k e.0 ≡ o → IsAmong (x, b) (seen (match_ordering o ((k, v) ∷ e ∷ es) ((e.0, v) ∷ es) (e ∷ insert_entry cmp es k v)))
          → (lookup (is_at (cmp k)) es ≡ None → IsAmong (x, b) (seen (insert_entry cmp es k v))
          → (◌≡◌ {A = A × ℕ} (view k, v) (x, b)) ⊎ IsAmong (x, b) (seen es))
          → (◌≡◌ {A = A × ℕ} (view k, v) (x, b)) ⊎ IsAmong (x, b) (seen (e ∷ es))
      by Less is (inl here) more = inl here
      by Less is (inr there) more = inr there
      by Equal is at more = let no : Some e.1 ≡ None = rw is at none in absurd (cc no)
      by Greater is (inl here) more = inr (inl here)
      by Greater is (inr there) more = elim (more (rw is at none) there) [ inl here ↦ inl here | inr at ↦ inr (inr at) ]

    pub insert_long : (es : List (K × ℕ)) → lookup (is_at (cmp k)) es ≡ None → length (insert_entry cmp es k v) ≡ length es + 1
    insert_long [] none = refl
    insert_long (e ∷ es) none = by (cmp k e.0) refl (insert_long es) where
      by : (o : Ordering) → cmp k e.0 ≡ o
          → (lookup (is_at (cmp k)) es ≡ None → length (insert_entry cmp es k v) ≡ length es + 1)
          → length (match_ordering o ((k, v) ∷ e ∷ es) ((e.0, v) ∷ es) (e ∷ insert_entry cmp es k v))
          ≡ length (e ∷ es) + 1
      by Less is more = omega arith
      by Equal is more = let no : Some e.1 ≡ None = rw is at none in absurd (cc no)
      by Greater is more = let long = more (rw is at none) in omega (arith, long)

-- PLACES

pub numbered_none : {A : Type 0} → IsNumbered {A = A} []
numbered_none = record {
  inside = λ x b h. absurd h;
  each = λ b lt. absurd (omega (arith, lt));
  one_thing = λ x y b h.
      absurd h;
  one_place = λ x b c h. absurd h;
}

-- one more thing, at the next place
pub numbered_more : {A : Type 0} (old new : List (A × ℕ)) (x : A) → IsNumbered old → ((b : ℕ) → IsAmong (x, b) old → ⊥)
    → length new ≡ length old + 1 → IsAmong (x, length old) new
    → ((y : A) (b : ℕ) → IsAmong (y, b) old → IsAmong (y, b) new)
    → ((y : A) (b : ℕ) → IsAmong (y, b) new → (◌≡◌ {A = A × ℕ} (x, length old) (y, b)) ⊎ IsAmong (y, b) old)
    → IsNumbered new
numbered_more {A} old new x h none long here kept only = record {
  inside = λ y b at. elim (only y b at) [
    | inl e ↦ let p : length old ≡ b = ap (λ q. q.1) e in omega (arith, p, long)
    | inr was ↦ omega (arith, h.inside y b was, long)
  ];
  each = λ b lt. elim (cases_lt b (length old)) [
    | inl below ↦ let (y, at) = h.each b below in (y, kept y b at)
    | inr le ↦ let p : length old ≡ b = omega (arith, le, lt, long) in (x, subst (λ n. IsAmong (x, n) new) p here)
  ];
  one_thing = λ y z b at there. elim (only y b at) [
    | inl e ↦ elim (only z b there) [
      | inl f ↦ sym (ap (λ q. q.0) e) ∙ ap (λ q. q.0) f
      | inr was ↦ let p : length old ≡ b = ap (λ q. q.1) e in absurd (omega (arith, p, h.inside z b was))
    ]
    | inr was ↦ elim (only z b there) [
      | inl f ↦ let p : length old ≡ b = ap (λ q. q.1) f in
          absurd (omega (arith, p, h.inside y b was))
      | inr also ↦ h.one_thing y z b was also
    ]
  ];
  one_place = λ y b c at there. elim (only y b at) [
    | inl e ↦ elim (only y c there) [
      | inl f ↦ sym (ap (λ q. q.1) e) ∙ ap (λ q. q.1) f
      | inr was ↦ let p : x ≡ y =
          ap (λ q. q.0) e in absurd (none c (subst (λ z. IsAmong (z, c) old) (sym p) was))
    ]
    | inr was ↦ elim (only y c there) [
      | inl f ↦ let p : x ≡ y = ap (λ q. q.0) f in
          absurd (none b (subst (λ z. IsAmong (z, b) old) (sym p) was))
      | inr also ↦ h.one_place y b c was also
    ]
  ];
}

-- A NEW KEY

module _ {K A : Type 0} (view : K → A) (cmp : K → K → Ordering) (k : K) (equal : (j : K) → view j ≡ view k → cmp k j ≡ Equal) where
  -- the key was added at the next place
  pub record CameIn (es new : List (K × ℕ)) : Type 0 where
    pub numbered : IsNumbered (seen view new)
    pub here : IsAmong (view k, length es) (seen view new)
    pub admits : Admits (seen view es) (seen view new)
    pub only : (y : A) (b : ℕ) → IsAmong (y, b) (seen view new) → (◌≡◌ {A = A × ℕ} (view k, length es) (y, b)) ⊎ IsAmong (y, b) (seen view es)

  pub came_in : (es new : List (K × ℕ)) → lookup (is_at (cmp k)) es ≡ None → new ≡ insert_entry cmp es k (length es)
      → IsNumbered (seen view es) → CameIn es new
  came_in es new none is h =
      let n = length es in
      let inserted = insert_entry cmp es k n in
      let long : length (seen view es) ≡ length es = length-map es (λ e. (view e.0, e.1)) in
      let grown : length (seen view inserted) ≡ length (seen view es) + 1 = length-map inserted (λ e. (view e.0, e.1))
      ∙ insert_long view cmp k n es none ∙ ap (λ m. m + 1) (sym long) in
      let here : IsAmong (view k, n) (seen view inserted) = insert_there view cmp k n es none in
      let numbered : IsNumbered (seen view inserted) =
      numbered_more (seen view es) (seen view inserted) (view k) h (λ b at.
      missing_there view (cmp k) (view k) equal es b none at) grown (subst (λ m.
      IsAmong (view k, m) (seen view inserted)) (sym long) here)
      (λ y b at. insert_kept view cmp k n es none y b at) (λ y b at.
      subst (λ m. (◌≡◌ {A = A × ℕ} (view k, m) (y, b)) ⊎ IsAmong (y, b) (seen view es)) (sym long)
      (insert_only view cmp k n es none y b at)) in
      subst (λ (l : List (K × ℕ)). CameIn es l) (sym is) (record {
        numbered = numbered;
        here = here;
        admits =
            record { kept = λ y b at. insert_kept view cmp k n es none y b at; few = omega (arith, grown) };
        only =
            λ y b at. insert_only view cmp k n es none y b at;
      })

-- THE POOLS

abbrev pub cmp_texts : Vec ℕ Global → Vec ℕ Global → Ordering
cmp_texts x y = slice_cmp nat_cmp x.items y.items

pub equal_octets : (s t : List ℕ) → t ≡ s → slice_cmp nat_cmp s t ≡ Equal
equal_octets s t e = (Equal-is (slice_cmp nat_cmp s t)).0 (is_eq-slice_cmp s t ∙ (bytes_eq-Decides s t).1 (sym e))

pub equal_numbers : (n m : ℕ) → m ≡ n → nat_cmp n m ≡ Equal
equal_numbers n m e = sym (nat_cmp_is n m Equal (sym e))

pub text_found : (text : List ℕ) (es : List (Vec ℕ Global × ℕ)) (b : ℕ)
    → lookup (is_at (λ (k : Vec ℕ Global). slice_cmp nat_cmp text k.items)) es ≡ Some b
    → IsAmong (text, b) (texts_in es)
text_found text es b h = found_there (λ (k : Vec ℕ Global). k.items) (λ k. slice_cmp nat_cmp text k.items) text (λ k e.
    sym (exact_bytes text k.items e)) es b h

pub text_missing : (text : List ℕ) (es : List (Vec ℕ Global × ℕ)) (b : ℕ)
    → lookup (is_at (λ (k : Vec ℕ Global). slice_cmp nat_cmp text k.items)) es ≡ None → IsAmong (text, b) (texts_in es)
    → ⊥
text_missing text es b none at =
    missing_there (λ (k : Vec ℕ Global). k.items) (λ k. slice_cmp nat_cmp text k.items) text (λ k e.
    equal_octets text k.items e) es b none at

pub text_came_in : (text : List ℕ) (key : Vec ℕ Global) (es new : List (Vec ℕ Global × ℕ)) → key.items ≡ text
    → lookup (is_at (λ (k : Vec ℕ Global). slice_cmp nat_cmp text k.items)) es ≡ None
    → new ≡ insert_entry cmp_texts es key (length es) → IsNumbered (texts_in es)
    → CameIn (λ (k : Vec ℕ Global). k.items) cmp_texts key (λ j e. equal_octets key.items j.items e) es new
text_came_in text key es new same none is h =
    came_in (λ (k : Vec ℕ Global). k.items) cmp_texts key (λ j e.
    equal_octets key.items j.items e) es new (subst (λ (t : List ℕ).
    lookup (is_at (λ (k : Vec ℕ Global). slice_cmp nat_cmp t k.items)) es ≡ None) (sym same) none) is h

-- one more text
pub texts_more : (text : List ℕ) (key : Vec ℕ Global) (place : ℕ) (es new : List (Vec ℕ Global × ℕ)) → key.items ≡ text
    → length text < 2 ^ 16 → AreTexts (texts_in es) → IsNumbered (texts_in new)
    → ((t : List ℕ) (b : ℕ) → IsAmong (t, b) (texts_in new)
    → (◌≡◌ {A = List ℕ × ℕ} (key.items, place) (t, b)) ⊎ IsAmong (t, b) (texts_in es)) → AreTexts (texts_in new)
texts_more text key place es new same small h numbered only =
    let IsSmall : List ℕ → Type 0 = λ t. length t < 2 ^ 16 in
    record {
      numbered = numbered;
      short = λ t b at.
          elim (only t b at) [ inl e ↦ subst IsSmall (sym same ∙ ap (λ q. q.0) e) small | inr was ↦ h.short t b was ];
    }

-- numbers are seen as they stand in the map
numbers_are : (es : List (ℕ × ℕ)) → map (λ (e : ℕ × ℕ). (e.0, e.1)) es ≡ es
numbers_are [] = refl
numbers_are (e ∷ es) = ap (λ l. e ∷ l) (numbers_are es)

pub number_found : (n : ℕ) (es : List (ℕ × ℕ)) (b : ℕ) → lookup (is_at (nat_cmp n)) es ≡ Some b → IsAmong (n, b) es
number_found n es b h =
    subst (λ (l : List (ℕ × ℕ)). IsAmong (n, b) l) (numbers_are es) (found_there (λ (k : ℕ). k) (nat_cmp n) n (λ k e.
    sym (exact_unsigned n k e)) es b h)

-- a number was added at the next place
pub record NumberCameIn (n : ℕ) (es new : List (ℕ × ℕ)) : Type 0 where
  pub numbered : IsNumbered new
  pub here : IsAmong (n, length es) new
  pub admits : Admits es new

pub number_came_in : (n : ℕ) (es new : List (ℕ × ℕ)) → lookup (is_at (nat_cmp n)) es ≡ None
    → new ≡ insert_entry nat_cmp es n (length es) → IsNumbered es → NumberCameIn n es new
number_came_in n es new none is h =
    let came = came_in (λ (k : ℕ). k) nat_cmp n (λ j e.
    equal_numbers n j e) es new none is (subst (λ (l : List (ℕ × ℕ)). IsNumbered l) (sym (numbers_are es)) h) in
    record {
      numbered = subst (λ (l : List (ℕ × ℕ)). IsNumbered l) (numbers_are new) came.numbered;
      here = subst (λ (l : List (ℕ × ℕ)). IsAmong (n, length es) l) (numbers_are new) came.here;
      admits = subst (λ (l : List (ℕ × ℕ)). Admits l new) (numbers_are es) (subst (λ (l : List (ℕ × ℕ)).
          Admits (map (λ (e : ℕ × ℕ). (e.0, e.1)) es) l) (numbers_are new) came.admits);
    }

-- THE LIST

get_set_here : {A : Type 0} (xs : List A) (i : ℕ) (x : A) → i < length xs → slice_get (set xs i x) i ≡ Some x
get_set_here [] i x lt = absurd (omega (arith, lt))
get_set_here (y ∷ xs) zero x lt = refl
get_set_here (y ∷ xs) (suc i) x lt = get_set_here xs i x (omega (arith, lt))

get_set_other : {A : Type 0} (xs : List A) (i j : ℕ) (x : A) → (i ≡ j → ⊥) → slice_get (set xs i x) j ≡ slice_get xs j
get_set_other [] i j x apart = refl
get_set_other (y ∷ xs) zero zero x apart = absurd (apart refl)
get_set_other (y ∷ xs) zero (suc j) x apart = refl
get_set_other (y ∷ xs) (suc i) zero x apart = refl
get_set_other (y ∷ xs) (suc i) (suc j) x apart = get_set_other xs i j x (λ e. apart (ap suc e))

-- What is no longer in the rest is at its place.
pub record IsPlaced {A : Type 0} (es rest : List (A × ℕ)) (xs : List A) : Type 0 where
  pub long : length xs ≡ length es
  pub among : (x : A) (b : ℕ) → IsAmong (x, b) rest → IsAmong (x, b) es
  pub placed : (x : A) (b : ℕ) → IsAmong (x, b) es → IsAmong (x, b) rest ⊎ (slice_get xs b ≡ Some x)

pub placed_first : {A : Type 0} (es : List (A × ℕ)) (xs : List A) → length xs ≡ length es → IsPlaced es es xs
placed_first es xs long = record { long = long; among = λ x b h. h; placed = λ x b h. inl h }

pub placed_inside : {A : Type 0} (es rest : List (A × ℕ)) (xs : List A) (x : A) (b : ℕ) → IsNumbered es
    → IsPlaced es ((x, b) ∷ rest) xs → b < length xs
placed_inside es rest xs x b n h = omega (arith, h.long, n.inside x b (h.among x b (inl refl)))

pub placed_turn : {A : Type 0} (es rest : List (A × ℕ)) (xs : List A) (x : A) (b : ℕ) → IsNumbered es
    → IsPlaced es ((x, b) ∷ rest) xs → length (set xs b x) ≡ length xs → IsPlaced es rest (set xs b x)
placed_turn {A} es rest xs x b n h same = record {
  long = same ∙ h.long;
  among = λ y c at. h.among y c (inr at);
  placed = λ y c at. elim (cases_order b c) [
    | inl e ↦ let thing : x ≡ y = n.one_thing x y c (subst (λ m. IsAmong (x, m) es) e (h.among x b (inl refl))) at in
        inr (subst (λ m. slice_get (set xs b x) m ≡ Some y) e (get_set_here xs b x (placed_inside es rest xs x b n h) ∙ ap (λ z. Some z) thing))
    | inr order ↦
        let apart : b ≡ c → ⊥ = λ e. elim order [ inl lt ↦ omega (arith, lt, e) | inr gt ↦ omega (arith, gt, e) ] in
        elim (h.placed y c at) [
          | inl (inl e) ↦ absurd (apart (ap (λ q. q.1) e))
          | inl (inr there) ↦ inl there
          | inr is ↦ inr (get_set_other xs b c x apart ∙ is)
        ]
  ];
}

pub placed_last : {A : Type 0} (es : List (A × ℕ)) (xs : List A) → IsPlaced es [] xs → (x : A) (b : ℕ) → IsAmong (x, b) es → slice_get xs b ≡ Some x
placed_last es xs h x b at = elim (h.placed x b at) [ inl left ↦ absurd left | inr is ↦ is ]

-- nothing stands in the list twice
pub placed_once : {A : Type 0} (es : List (A × ℕ)) (xs : List A) → IsNumbered es → IsPlaced es [] xs → (i j : ℕ) (x : A)
    → i < length xs → j < length xs → slice_get xs i ≡ Some x → slice_get xs j ≡ Some x → i ≡ j
placed_once {A} es xs n h i j x lti ltj ati atj =
    let (y, here) = n.each i (omega (arith, lti, h.long)) in
    let (z, there) = n.each j (omega (arith, ltj, h.long)) in
    let first : Some y ≡ Some x = sym (placed_last es xs h y i here) ∙ ati in
    let second : Some z ≡ Some x = sym (placed_last es xs h z j there) ∙ atj in
    let one : y ≡ x = cc first in
    let two : z ≡ x = cc second in
    n.one_place x i j (subst (λ w. IsAmong (w, i) es) one here) (subst (λ w. IsAmong (w, j) es) two there)

-- what the loops do
pub text_placed : (es rest : List (Vec ℕ Global × ℕ)) (xs : List (Vec ℕ Global)) (k : Vec ℕ Global) (v : ℕ)
    → IsNumbered (texts_in es) → IsPlaced (texts_in es) (texts_in ((k, v) ∷ rest)) (octets_of xs)
    → IsPlaced (texts_in es) (texts_in rest) (octets_of (set xs v k))
text_placed es rest xs k v n h =
    subst (λ (l : List (List ℕ)). IsPlaced (texts_in es) (texts_in rest) l) (sym (map-set (λ (t : Vec ℕ Global). t.items) xs v k))
    (placed_turn (texts_in es) (texts_in rest) (octets_of xs) k.items v n h (length-set (octets_of xs) v k.items))

pub text_inside : (es rest : List (Vec ℕ Global × ℕ)) (xs : List (Vec ℕ Global)) (k : Vec ℕ Global) (v : ℕ)
    → IsNumbered (texts_in es) → IsPlaced (texts_in es) (texts_in ((k, v) ∷ rest)) (octets_of xs) → v < length xs
text_inside es rest xs k v n h = let inside =
    placed_inside (texts_in es) (texts_in rest) (octets_of xs) k.items v n h in
    omega (arith, inside, length-map xs (λ (t : Vec ℕ Global). t.items))

pub number_placed : (es rest : List (ℕ × ℕ)) (xs : List ℕ) (k v : ℕ) → IsNumbered es → IsPlaced es ((k, v) ∷ rest) xs → IsPlaced es rest (set xs v k)
number_placed es rest xs k v n h = placed_turn es rest xs k v n h (length-set xs v k)

index_there : {A : Type 0} (xs : List A) (i : ℕ) (d x : A) → slice_get xs i ≡ Some x → get_or xs i d ≡ x
index_there [] i d x at = absurd (cc at)
index_there (y ∷ xs) zero d x at = cc at
index_there (y ∷ xs) (suc i) d x at = index_there xs i d x at

-- at the end of the loops
pub all_short : (es : List (List ℕ × ℕ)) (xs : List (List ℕ)) → AreTexts es → IsPlaced es [] xs → All (λ t. length t < 2 ^ 16) xs
all_short es xs h done i d lt =
    let (y, at) = h.numbered.each i (omega (arith, lt, done.long)) in
    let IsSmall : List ℕ → Type 0 = λ t. length t < 2 ^ 16 in
    subst IsSmall (sym (index_there xs i d y (placed_last es xs done y i at))) (h.short y i at)

pub once_in_all : {A : Type 0} (es : List (A × ℕ)) (xs : List A) → IsNumbered es → IsPlaced es [] xs → IsOnce xs
once_in_all es xs n h i j x ati atj = placed_once es xs n h i j x (slice_get_within xs i x ati) (slice_get_within xs j x atj) ati atj
