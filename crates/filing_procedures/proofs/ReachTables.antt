-- The rounds of the tables of what scripts reach.
use Rattle.std.proofs.Common.{◌≡◌, ◌⊎◌, ℕ, zero, suc, ◌+◌, ◌<◌, List, [], ◌∷◌, ◌++◌, map, filter, length, Bool, true, false, ◌||◌, cond, Option, Some}
use Rattle.std.proofs.Common.{None, Result, Ok, Err, IfOk, Vec, Global, inl, inr, refl, sym, ap, ◌∙◌, subst, arith, length-append, get_or}
use Rattle.std.specs.Prelude.{slice_get, nat_eq, take}
use Rattle.std.specs.List.{list_any}
use Rattle.std.proofs.lemmas.List.{map-append}
use Rattle.std.proofs.lemmas.List.Folds.{list_any-append}
use Rattle.std.proofs.lemmas.Grind.{common_steps}
use Rattle.std.proofs.lemmas.Bool.{eq-eqb, eqb-true}
use Rattle.std.proofs.lemmas.Option.{same_Some}
use Rattle.sieve_meaning.specs.Program.{Commands}
use Rattle.sieve_meaning.specs.Meaning.{ScriptName, same_script, Library}
use Rattle.sieve_meaning.specs.Procedures.{included_names, holds_if_there, reaches_within, reaches}
use Rattle.sieve_meaning.proofs.SharingLemmas.{same_is, same_self}
use Rattle.sieve_library.specs.Libraries.{Scripts, library_of}
use Rattle.filing_procedures.specs.declared.slot_set.SlotSet.{SlotSet}
use Rattle.filing_procedures.specs.Sets.{has}
use Rattle.filing_procedures.specs.IncludedScripts.{is_there, names_there}
use Rattle.filing_procedures.specs.Slots.{slots_of, HasSlots, IsAt}
use Rattle.filing_procedures.specs.ReachTables.{has_at, leads_to, further, IsRow, AreRows, AreFurther, AreReached, ReachIs}
use Rattle.filing_procedures.proofs.IncludedLemmas.{any_map}

pub if_ok_more : {V E : Type 0} (P Q : V → Type 0) (r : Result V E) → ((v : V) → P v → Q v) → IfOk r P → IfOk r Q
if_ok_more P Q (Ok v) h k = h v k
if_ok_more P Q (Err e) h k = k

-- what stands in a list with one more at its end
pub got_pushed : {A : Type 0} (xs : List A) (x y : A) (i : ℕ) → slice_get (xs ++ x ∷ []) i ≡ Some y
    → (slice_get xs i ≡ Some y) ⊎ ((i ≡ length xs) × (x ≡ y))
got_pushed [] x y zero h = inr (refl, same_Some x y h)
got_pushed [] x y (suc i) h = absurd (cc h)
got_pushed (z ∷ xs) x y zero h = inl h
got_pushed (z ∷ xs) x y (suc i) h = elim (got_pushed xs x y i h) [ inl here ↦ inl here | inr last ↦ inr (ap suc last.0, last.1) ]

pub item_more : {A : Type 0} (xs : List A) (i : ℕ) (x : A) → i < length xs → x ≡ get_or xs i x → take (i + 1) xs ≡ take i xs ++ x ∷ []
item_more xs i x below is = grind (arith, common_steps)

-- ROWS

pub row_is : (l : Scripts) (slot : ℕ) (script : Commands) → IsAt l slot (Some script) → (row : List ℕ)
    → row ≡ map (slots_of l) (filter (is_there (library_of l)) (names_there (library_of l) script)) → IsRow l slot row
row_is l slot script at row is s x h k =
    is ∙ ap (λ (y : Commands). map (slots_of l) (filter (is_there (library_of l)) (names_there (library_of l) y))) (same_Some script x (at s x h k))

pub no_row : (l : Scripts) (slot : ℕ) → IsAt l slot None → (row : List ℕ) → IsRow l slot row
no_row l slot at row s x h k = absurd (cc (at s x h k))

pub rows_more : (l : Scripts) (n : ℕ) (rows : List (List ℕ)) (row : List ℕ) → AreRows l n rows → IsRow l n row → AreRows l (n + 1) (rows ++ row ∷ [])
rows_more l n rows row are is = record {
  long = length-append rows (row ∷ []) ∙ ap (λ (m : ℕ). m + 1) are.long;
  each = λ slot r at. elim (got_pushed rows row r slot at) [
    | inl here ↦ are.each slot r here
    | inr last ↦ subst (λ (m : ℕ). IsRow l m r) (sym (last.0 ∙ are.long)) (subst (IsRow l n) last.1 is)
  ];
}

pub rows_turn : (l : Scripts) (n : ℕ) (rows new : List (Vec ℕ Global)) (row : Vec ℕ Global)
    → AreRows l n (map (λ r. r.items) rows) → IsRow l n row.items → new ≡ rows ++ row ∷ []
    → AreRows l (n + 1) (map (λ r. r.items) new)
rows_turn l n rows new row are is made =
    subst (AreRows l (n + 1)) (sym (ap (map (λ (r : Vec ℕ Global). r.items)) made
    ∙ map-append (λ (r : Vec ℕ Global). r.items) rows (row ∷ [])))
    (rows_more l n (map (λ r. r.items) rows) row.items are is)

-- ROUNDS

one_more : (row : List ℕ) (i : ℕ) → i < length row → take (i + 1) row ≡ take i row ++ get_or row i 0 ∷ []
one_more row i below = grind (arith, common_steps)

-- one more slot of a row
pub turn_some : (sets : List SlotSet) (row : List ℕ) (i : ℕ) (set old mid new : SlotSet) → i < length row
    → slice_get sets (get_or row i 0) ≡ Some set → ((k : ℕ) → has old k ≡ further sets (take i row) k)
    → ((k : ℕ) → has mid k ≡ (nat_eq k (get_or row i 0) || has old k))
    → ((k : ℕ) → has new k ≡ (has mid k || has set k)) → (k : ℕ) → has new k ≡ further sets (take (i + 1) row) k
turn_some sets row i set old mid new below at before with_slot union k =
    let slot = get_or row i 0 in
    union k
    ∙ ap (λ (b : Bool). b || has set k) (with_slot k ∙ ap (λ (b : Bool). nat_eq k slot || b) (before k))
    ∙ swap (nat_eq k slot) (further sets (take i row) k) (has set k)
    ∙ ap (λ (o : Option SlotSet). further sets (take i row) k || (leads_to o slot k || false)) (sym at)
    ∙ sym (list_any-append (λ m. leads_to (slice_get sets m) m k) (take i row) (slot ∷ []))
    ∙ ap (λ (q : List ℕ). further sets q k) (sym (one_more row i below))
  where
    swap : (a b c : Bool) → ((a || b) || c) ≡ (b || ((a || c) || false))
    swap true true c = refl
    swap true false c = refl
    swap false true c = refl
    swap false false true = refl
    swap false false false = refl

pub turn_none : (sets : List SlotSet) (row : List ℕ) (i : ℕ) (old : SlotSet) → i < length row
    → slice_get sets (get_or row i 0) ≡ None → ((k : ℕ) → has old k ≡ further sets (take i row) k) → (k : ℕ)
    → has old k ≡ further sets (take (i + 1) row) k
turn_none sets row i old below at before k =
    let slot = get_or row i 0 in
    before k
    ∙ same (further sets (take i row) k)
    ∙ ap (λ (o : Option SlotSet). further sets (take i row) k || (leads_to o slot k || false)) (sym at)
    ∙ sym (list_any-append (λ m. leads_to (slice_get sets m) m k) (take i row) (slot ∷ []))
    ∙ ap (λ (q : List ℕ). further sets q k) (sym (one_more row i below))
  where
    same : (b : Bool) → b ≡ (b || (false || false))
    same true = refl
    same false = refl

pub further_more : (rows : List (List ℕ)) (old new : List SlotSet) (row : List ℕ) (set : SlotSet)
    → AreFurther rows old new → ((k : ℕ) → has set k ≡ further old row k)
    → AreFurther (rows ++ row ∷ []) old (new ++ set ∷ [])
further_more rows old new row set are is = record {
  long = length-append new (set ∷ []) ∙ ap (λ (m : ℕ). m + 1) are.long ∙ sym (length-append rows (row ∷ []));
  each = λ slot r at k. elim (got_pushed rows row r slot at) [
    | inl here ↦
        ap (λ (o : Option SlotSet).
        has_at o k) (kept new set slot (subst (λ (m : ℕ). slot < m) (sym are.long) (inside rows slot r here)))
        ∙ are.each slot r here k
    | inr last ↦ ap (λ (o : Option SlotSet). has_at o k) (ap (slice_get (new ++ set ∷ [])) (last.0 ∙ sym are.long)
        ∙ at_end new set) ∙ is k ∙ ap (λ (q : List ℕ). further old q k) last.1
  ];
}
  where
    inside : {A : Type 0} (xs : List A) (i : ℕ) (x : A) → slice_get xs i ≡ Some x → i < length xs
    inside [] i x h = absurd (cc h)
    inside (y ∷ ys) zero x h = omega arith
    inside (y ∷ ys) (suc i) x h = let l = inside ys i x h in omega (arith, l)

    kept : {A : Type 0} (xs : List A) (x : A) (i : ℕ) → i < length xs → slice_get (xs ++ x ∷ []) i ≡ slice_get xs i
    kept [] x i h = absurd (omega (arith, h))
    kept (y ∷ ys) x zero h = refl
    kept (y ∷ ys) x (suc i) h = kept ys x i (omega (arith, h))

    at_end : {A : Type 0} (xs : List A) (x : A) → slice_get (xs ++ x ∷ []) (length xs) ≡ Some x
    at_end [] x = refl
    at_end (y ∷ ys) x = at_end ys x

pub round_turn : (rows : List (Vec ℕ Global)) (i : ℕ) (row : Vec ℕ Global) (old new made : List SlotSet) (set : SlotSet)
    → i < length rows → row ≡ get_or rows i row → AreFurther (map (λ r. r.items) (take i rows)) old new
    → ((k : ℕ) → has set k ≡ further old row.items k) → made ≡ new ++ set ∷ []
    → AreFurther (map (λ r. r.items) (take (i + 1) rows)) old made
round_turn rows i row old new made set below at are is added =
    let taken : map (λ (r : Vec ℕ Global). r.items) (take (i + 1) rows) ≡ map (λ (r : Vec ℕ Global).
    r.items) (take i rows)
    ++ row.items ∷ [] = ap (map (λ (r : Vec ℕ Global). r.items)) (item_more rows i row below at)
    ∙ map-append (λ (r : Vec ℕ Global). r.items) (take i rows) (row ∷ []) in
    subst (λ (q : List (List ℕ)).
    AreFurther q old made) (sym taken) (subst (AreFurther (map (λ (r : Vec ℕ Global). r.items) (take i rows)
    ++ row.items ∷ []) old) (sym added) (further_more (map (λ r. r.items) (take i rows)) old new row.items set are
    is))

got_below : {A : Type 0} (xs : List A) (i : ℕ) → i < length xs → (x : A) × (slice_get xs i ≡ Some x)
got_below [] i h = absurd (omega (arith, h))
got_below (x ∷ xs) zero h = (x, refl)
got_below (x ∷ xs) (suc i) h = got_below xs i (omega (arith, h))

-- a test of the scripts that are there
any_there : (lib : Library) (p q : ScriptName → Bool) → ((u : ScriptName) (z : Commands) → lib.find u ≡ Some z
    → p u ≡ q u) → ((u : ScriptName) → lib.find u ≡ None → q u ≡ false) → (names : List ScriptName)
    → list_any p (filter (is_there lib) names) ≡ list_any q names
any_there lib p q same none [] = refl
any_there lib p q same none (u ∷ us) = by (lib.find u) refl (any_there lib p q same none us)
  where
    by : (o : Option Commands) → lib.find u ≡ o → list_any p (filter (is_there lib) us) ≡ list_any q us
        → list_any p (cond (holds_if_there o (λ script. true)) (u ∷ filter (is_there lib) us)
        (filter (is_there lib) us)) ≡ (q u || list_any q us)
    by None at rest = rest ∙ ap (λ (b : Bool). b || list_any q us) (sym (none u at))
    by (Some z) at rest = ap (λ (b : Bool). b || list_any p (filter (is_there lib) us)) (same u z at) ∙ ap (λ (b : Bool). q u || b) rest

module _ (l : Scripts) (count : ℕ) (slots : HasSlots (library_of l) (slots_of l) count) where
  lib : Library
  lib = library_of l

  slot_tells : (u t : ScriptName) (z y : Commands) → lib.find u ≡ Some z → lib.find t ≡ Some y
      → nat_eq (slots_of l t) (slots_of l u) ≡ same_script u t
  unfolding lib
  slot_tells u t z y at there = by (same_script u t) refl
    where
      by : (b : Bool) → same_script u t ≡ b → nat_eq (slots_of l t) (slots_of l u) ≡ b
      by true is = eq-eqb (slots_of l t) (slots_of l u) (ap (slots_of l) (sym (same_is u t is)))
      by false is = other (nat_eq (slots_of l t) (slots_of l u)) refl
        where
          other : (b : Bool) → nat_eq (slots_of l t) (slots_of l u) ≡ b → b ≡ false
          other false e = refl
          other true e =
              let same : t ≡ u = slots.own t u y z there at (eqb-true (slots_of l t) (slots_of l u) e) in
              absurd (cc (is, ap (λ (v : ScriptName). same_script u v) same ∙ same_self u))

  pub none_reached : (sets : List SlotSet) → length sets ≡ count
      → ((i : ℕ) (set : SlotSet) → slice_get sets i ≡ Some set → (k : ℕ) → has set k ≡ false)
      → AreReached l count 0 sets
  none_reached sets long empty =
      record {
        long = long;
        is = λ s t x y at there.
            by (slots_of l s) (slice_get sets (slots_of l s)) refl (slots_of l t);
      }
    where
      by : (i : ℕ) (o : Option SlotSet) → slice_get sets i ≡ o → (k : ℕ) → has_at o k ≡ false
      by i None at k = refl
      by i (Some set) at k = empty i set at k

  module _ (n : ℕ) (rows : List (List ℕ)) (old new : List SlotSet) (are : AreRows l count rows)
      (reached : AreReached l count n old) (more : AreFurther rows old new) where
    none : (t u : ScriptName) → lib.find u ≡ None → holds_if_there (lib.find u) (λ z. same_script u t || reaches_within lib n z t) ≡ false
    none t u is = ap (λ (o : Option Commands). holds_if_there o (λ z. same_script u t || reaches_within lib n z t)) is

    -- what a script of a row leads to
    same : (t : ScriptName) (y : Commands) → lib.find t ≡ Some y → (u : ScriptName) (z : Commands) → lib.find u ≡ Some z
        → leads_to (slice_get old (slots_of l u)) (slots_of l u) (slots_of l t) ≡ holds_if_there (lib.find u) (λ z.
        same_script u t || reaches_within lib n z t)
    unfolding lib
    same t y there u z is =
        let set = got_below old (slots_of l u) (subst (λ (m : ℕ). slots_of l u < m) (sym reached.long) (slots.inside u z is)) in
        ap (λ (o : Option SlotSet). leads_to o (slots_of l u) (slots_of l t)) set.1
        ∙ ap (λ (b : Bool). b || has set.0 (slots_of l t)) (slot_tells u t z y is there)
        ∙ ap (λ (b : Bool). same_script u t || b) (ap (λ (o : Option SlotSet). has_at o (slots_of l t)) (sym set.1) ∙ reached.is u t z y is there)
        ∙ ap (λ (o : Option Commands). holds_if_there o (λ z. same_script u t || reaches_within (library_of l) n z t)) (sym is)

    round_is : (s t : ScriptName) (x y : Commands) → lib.find s ≡ Some x → lib.find t ≡ Some y
        → has_at (slice_get new (slots_of l s)) (slots_of l t) ≡ reaches_within lib (suc n) x t
    unfolding lib
    round_is s t x y at there =
        let slot = slots_of l s in
        let k = slots_of l t in
        let found = got_below rows slot (subst (λ (m : ℕ). slot < m) (sym are.long) (slots.inside s x at)) in
        let row = found.0 in
        let names = included_names x in
        let test : ℕ → Bool = λ m. leads_to (slice_get old m) m k in
        let wanted : ScriptName → Bool = λ u. holds_if_there ((library_of l).find u) (λ z. same_script u t || reaches_within (library_of l) n z t) in
        more.each slot row found.1 k
        ∙ ap (λ (r : List ℕ). list_any test r) (are.each slot row found.1 s x at refl)
        ∙ any_map test (slots_of l) (filter (is_there (library_of l)) (names_there (library_of l) x))
        ∙ any_there (library_of l) (λ u. test (slots_of l u)) wanted (same t y there) (none t) (names_there (library_of l) x)
        ∙ any_there (library_of l) wanted wanted (λ u z is. refl) (none t) names

    next : AreReached l count (suc n) new
    unfolding lib
    next = record { long = more.long ∙ are.long; is = round_is }

    pub round_more : AreReached l count (n + 1) new
    round_more = let e : suc n ≡ n + 1 = omega arith in subst (λ (m : ℕ). AreReached l count m new) e next

  pub reached_all : (sets : List SlotSet) → AreReached l count 64 sets → ReachIs l sets
  unfolding reaches
  reached_all sets r = r.is
