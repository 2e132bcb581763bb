-- The due days by a plan, one record after another.
use Rattle.std.proofs.Common.{◌≡◌, ◌<◌, ◌≤◌, ◌+◌, ◌-◌, ℕ, zero, suc, slice_get, Bool, true, false, not, cond, ◌&&◌}
use Rattle.std.proofs.Common.{is_some, unwrap_or, List, [], ◌∷◌, ◌++◌, map, filter, take, length, get_or, Option, Some}
use Rattle.std.proofs.Common.{None, refl, sym, ap, subst, ◌∙◌, arith}
use Rattle.std.specs.List.{AllByRecursion}
use Rattle.std.proofs.lemmas.List.{take_more, map-append}
use Rattle.std.proofs.lemmas.List.Elements.{All-from_recursion, filter-append, recursion_from_All}
use Rattle.sqlite_trees.specs.Tree.{IsAscending}
use Rattle.sqlite_keyed.proofs.ListLemmas.{all_weaker, all-filter, all_map, all_unmap, all-slice_get, ascending-append}
use Rattle.class_plan.specs.Calendar.{due_on}
use Rattle.class_plan.specs.Plans.{Listing}
use Rattle.record_archive.specs.Archive.{Record, Archive, IsArchive, IsRecord}
use Rattle.record_tables.specs.Rows.{Due}
use Rattle.record_tables.specs.Changes.{AreAscending}
use Rattle.record_adoption.specs.Keeping.{AreBelow, has_due, due_row, dues_in}
use Rattle.record_adoption.specs.Faults.{AreInOrder}

abbrev alone : Listing → Archive
alone p = record { plan = p; messages = []; records = []; holds = [] }

pub dues_next : {V : Type 0} (p : Listing) (f : V → Record) (vs : List V) (v : V) (i : ℕ) → i < length vs → v ≡ get_or vs i v
    → dues_in p (map f (take i vs)) ++ dues_in p (f v ∷ []) ≡ dues_in p (map f (take (i + 1) vs))
dues_next p f vs v i low is =
    let next : map f (take (i + 1) vs) ≡ map f (take i vs) ++ f v ∷ [] = ap (map f) (take_more vs i v low)
    ∙ map-append f (take i vs) _ ∙ ap (λ x. map f (take i vs) ++ f x ∷ []) (sym is) in
    sym (ap (dues_in p) next
    ∙ ap (map (due_row (alone p))) (filter-append (has_due (alone p)) (map f (take i vs)) (f v ∷ []))
    ∙ map-append (due_row (alone p)) (filter (has_due (alone p)) (map f (take i vs)))
    (filter (has_due (alone p)) (f v ∷ [])))

-- ---- a due day after the last of those that ascend

below_last : {V : Type 0} (f : V → Due) (vs : List V) (v : V) (n i : ℕ) → AreAscending (map f vs) → i + 1 ≡ length vs
    → Some v ≡ slice_get vs i → (f v).number < n → AreBelow n (map f vs)
below_last f [] v n i up long at low = tt
below_last f (x ∷ []) v n zero up long at low = let same : v ≡ x = cc in (subst (λ y. (f y).number < n) same low, tt)
below_last f (x ∷ []) v n (suc i) up long at low = absurd (omega arith)
below_last f (x ∷ y ∷ vs) v n zero up long at low = absurd (omega arith)
below_last f (x ∷ y ∷ vs) v n (suc i) up long at low =
    let more = below_last f (y ∷ vs) v n i up.1 (omega arith) at low in
    let first = up.0.0 in
    (omega (arith, first, more.0), more)

pub after_last : {V : Type 0} (f : V → Due) (vs : List V) (v : V) (n : ℕ) → AreAscending (map f vs)
    → Some v ≡ slice_get vs (length vs - 1) → (f v).number < n → AreBelow n (map f vs)
after_last f [] v n up at low = tt
after_last f (x ∷ vs) v n up at low = below_last f (x ∷ vs) v n (length (x ∷ vs) - 1) up (omega arith) at low

is_got : {V : Type 0} (vs : List V) (i : ℕ) → i < length vs → None ≡ slice_get vs i → ⊥
is_got [] i low none = absurd (omega arith)
is_got (x ∷ vs) zero low none = absurd cc
is_got (x ∷ vs) (suc i) low none = is_got vs i (omega arith) none

pub after_none : {V : Type 0} (f : V → Due) (vs : List V) (n : ℕ) → None ≡ slice_get vs (length vs - 1) → AreBelow n (map f vs)
after_none f [] n none = tt
after_none f (x ∷ vs) n none = absurd (is_got (x ∷ vs) (length (x ∷ vs) - 1) (omega arith) none)

pub last_below : {V : Type 0} (f : V → Due) (vs : List V) (v : V) (n : ℕ)
    → AreBelow n (map f vs) → Some v ≡ slice_get vs (length vs - 1) → (f v).number < n
last_below f vs v n all at =
    all-slice_get (λ x. (f x).number < n) vs (length vs - 1) v (sym at) (all_unmap (λ (d : Due). d.number < n) f vs all)

pub rises_after : {V : Type 0} (f : V → Due) (vs : List V) (v : V) → AreAscending (map f vs)
    → AreBelow (f v).number (map f vs) → AreAscending (map f (vs ++ v ∷ []))
rises_after f vs v up below =
    subst AreAscending (sym (map-append f vs (v ∷ [])))
    (ascending-append (λ (x y : Due). x.number < y.number) (map f vs) (f v ∷ []) up (tt, tt)
    (all_weaker (λ (x : Due). x.number < (f v).number) (λ (x : Due).
    AllByRecursion (λ (y : Due). x.number < y.number) (f v ∷ [])) (λ x h. (h, tt)) (map f vs) below))

-- what one record adds
pub none_of_destroyed : (p : Listing) (r : Record) → r.destroyed ≡ true → dues_in p (r ∷ []) ≡ []
none_of_destroyed p r h = rw h refl

pub none_without_day : (p : Listing) (r : Record) → due_on p r.path r.day ≡ None → dues_in p (r ∷ []) ≡ []
none_without_day p r h = ap (λ o. map (due_row (alone p)) (cond (not r.destroyed && is_some o) (r ∷ []) [])) h ∙ go r.destroyed
  where
    go : (d : Bool) → map (due_row (alone p)) (cond (not d && false) (r ∷ []) []) ≡ []
    go true = refl
    go false = refl

pub one_with_day : (p : Listing) (r : Record) (day : ℕ) → r.destroyed ≡ false → due_on p r.path r.day ≡ Some day
    → dues_in p (r ∷ []) ≡ record { number = r.number; day = day } ∷ []
one_with_day p r day live h =
    ap (λ d. map (due_row (alone p)) (cond (not d && is_some (due_on p r.path r.day)) (r ∷ []) [])) live
    ∙ ap (λ b. map (due_row (alone p)) (cond b (r ∷ []) [])) (ap is_some h)
    ∙ ap (λ (o : Option ℕ). record { number = r.number; day = unwrap_or o 0 } ∷ []) h

-- ---- records in the order of their numbers

at_mapped : {V : Type 0} (f : V → Record) (P : Record → Type 0) (vs : List V) (v : V) (i : ℕ) → i < length vs
    → v ≡ get_or vs i v → AllByRecursion P (map f vs) → P (f v)
at_mapped f P vs v i low is all =
    subst (λ y. P (f y)) (sym is) (All-from_recursion (λ x. P (f x)) vs (all_unmap P f vs all) i v low)

-- the records before a place have numbers below that of the one there
before_place : {V : Type 0} (f : V → Record) (vs : List V) (v : V) (i : ℕ) → i < length vs → v ≡ get_or vs i v
    → IsAscending (λ (x y : Record). x.number < y.number) (map f vs) → AllByRecursion (λ (r : Record). r.number < (f v).number) (map f (take i vs))
before_place f [] v i low is up = absurd (omega arith)
before_place f (x ∷ vs) v zero low is up = tt
before_place f (x ∷ vs) v (suc i) low is up = (
  at_mapped f (λ (r : Record). (f x).number < r.number) vs v i (omega arith) is up.0,
  before_place f vs v i (omega arith) is up.1,
)

dues_below : (p : Listing) (n : ℕ) (rs : List Record) → AllByRecursion (λ (r : Record). r.number < n) rs → AreBelow n (dues_in p rs)
dues_below p n rs h =
    all_map (λ (d : Due). d.number < n) (due_row (alone p)) (filter (has_due (alone p)) rs)
    (all-filter (λ (r : Record). r.number < n) (has_due (alone p)) rs h)

-- the due days of the records before a place have numbers below that of the record there
pub dues_before : {V : Type 0} (p : Listing) (f : V → Record) (vs : List V) (v : V) (i : ℕ) → i < length vs
    → v ≡ get_or vs i v → AreInOrder (map f vs) → AreBelow (f v).number (dues_in p (map f (take i vs)))
dues_before p f vs v i low is order = dues_below p (f v).number (map f (take i vs)) (before_place f vs v i low is order.numbers)

pub day_at : {V : Type 0} (f : V → Record) (vs : List V) (v : V) (i : ℕ) → i < length vs → v ≡ get_or vs i v
    → AreInOrder (map f vs) → (f v).day ≤ 84005
day_at f vs v i low is order = at_mapped f (λ (r : Record). r.day ≤ 84005) vs v i low is order.days

-- the records of an archive
pub archive_in_order : (a : Archive) → IsArchive a → AreInOrder a.records
archive_in_order a is =
    record {
      numbers = is.in_order;
      days = all_weaker (IsRecord a) (λ (r : Record). r.day ≤ 84005) (λ r h.
          h.day) a.records (recursion_from_All (IsRecord a) a.records is.records);
    }
