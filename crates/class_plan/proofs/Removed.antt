-- A class that is removed from a plan.
use Rattle.std.proofs.Common.{◌≡◌, ℕ, Bool, true, false, not, cond, List, [], ◌∷◌, filter, Ok, Some, is_some, Vec, Global, Ordering, Less, Equal}
use Rattle.std.proofs.Common.{Greater, nat_cmp, is_eq, true≢false, refl, ap, sym, ◌∙◌, arith}
use Rattle.std.proofs.lemmas.Map.Text.{is_eq-slice_cmp}
use Rattle.std.proofs.lemmas.Slice.Eq.{bytes_eq-Decides}
use Rattle.std.specs.List.{AllByRecursion}
use Rattle.std.specs.List.Sorted.{IsStrictlySortedBy}
use Rattle.std.specs.BTreeMap.{is_at}
use Rattle.std.specs.Map.{remove_entry}
use Rattle.std.specs.Str.{bytes_eq}
use Rattle.std.specs.Cmp.Lexicographic.{slice_cmp}
use Rattle.class_plan.specs.declared.faults.PlanFault.TheVariants.{PathTwice}
use Rattle.class_plan.specs.Plans.{Row, Listing, row_at, has, with_row, open_row, paths_of}
use Rattle.class_plan.specs.Changes.{addition, speaks_against, with_class, without_class}
use Rattle.class_plan.specs.Fields.{MapEntry, row, rows}
use Rattle.class_plan.proofs.Judged.{judged-made}
use Rattle.class_plan.proofs.Put.{put-cons, placed, same-path}

abbrev is_other : List ℕ → Row → Bool
is_other q r = not (bytes_eq q r.path)

same_bytes : (q : List ℕ) → bytes_eq q q ≡ true
same_bytes q = (bytes_eq-Decides q q).1 refl

first_other : (q : List ℕ) (x : Row) (xs : List Row) (b : Bool) → is_some (cond b (Some x) (row_at q xs)) ≡ false → b ≡ false
first_other q x xs true e = absurd (true≢false e)
first_other q x xs false e = refl

pub head_other : (q : List ℕ) (x : Row) (xs : List Row) → has (x ∷ xs) q ≡ false → bytes_eq q x.path ≡ false
head_other q x xs e = first_other q x xs (bytes_eq q x.path) e

pub tail_other : (q : List ℕ) (x : Row) (xs : List Row) → has (x ∷ xs) q ≡ false → has xs q ≡ false
tail_other q x xs e = sym (ap (λ b. is_some (cond b (Some x) (row_at q xs))) (head_other q x xs e)) ∙ e

kept_head : (q : List ℕ) (x : Row) (xs : List Row) → bytes_eq q x.path ≡ false → filter (is_other q) (x ∷ xs) ≡ x ∷ filter (is_other q) xs
kept_head q x xs e = ap (λ b. cond (not b) (x ∷ filter (is_other q) xs) (filter (is_other q) xs)) e

-- nothing is removed where no class has the path
kept_all : (q : List ℕ) (xs : List Row) → has xs q ≡ false → filter (is_other q) xs ≡ xs
kept_all q [] e = refl
kept_all q (x ∷ xs) e = kept_head q x xs (head_other q x xs e) ∙ ap (λ l. x ∷ l) (kept_all q xs (tail_other q x xs e))

goes_first : (q : List ℕ) (xs : List Row) → filter (is_other q) (open_row q ∷ xs) ≡ filter (is_other q) xs
goes_first q xs = ap (λ b. cond (not b) (open_row q ∷ filter (is_other q) xs) (filter (is_other q) xs)) (same_bytes q)

-- removing a class that was put gives the rows from before
put_goes : (q : List ℕ) (xs : List Row) → has xs q ≡ false → filter (is_other q) (with_row (open_row q) xs) ≡ xs
put_goes q [] e = goes_first q []
put_goes q (x ∷ xs) e = ap (filter (is_other q)) (put-cons (open_row q) x xs)
    ∙ go (slice_cmp nat_cmp q x.path) refl (put_goes q xs (tail_other q x xs e))
  where
    go : (o : Ordering) → o ≡ slice_cmp nat_cmp q x.path → filter (is_other q) (with_row (open_row q) xs) ≡ xs
        → filter (is_other q) (placed o (open_row q) x xs) ≡ x ∷ xs
    go Less same rest = goes_first q (x ∷ xs) ∙ kept_all q (x ∷ xs) e
    go Equal same rest = absurd (true≢false (sym ((bytes_eq-Decides q x.path).1 (sym (same-path q x.path same))) ∙ head_other q x xs e))
    go Greater same rest = kept_head q x (with_row (open_row q) xs) (head_other q x xs e) ∙ ap (λ l. x ∷ l) rest

-- a class that was added was not there
pub added-new : (p r : Listing) (q : List ℕ) → addition p q ≡ Ok r → (r ≡ with_class p q) × (has p.rows q ≡ false)
added-new p r q e =
    let made = judged-made (speaks_against p q) (with_class p q) r (sym e) in
    (made.0, made.1 PathTwice (omega arith))

-- removing the added class gives the plan from before
pub without-added : (p r : Listing) (q : List ℕ) → addition p q ≡ Ok r → without_class r q ≡ p
without-added p r q e =
    let new = added-new p r q e in
    ap (λ l. without_class l q) new.0 ∙ ap (λ rs. let l : Listing = record { root = p.root; rows = rs } in l) (put_goes q p.rows new.1)

-- ---- the map

above_others : (k : List ℕ) (es : List MapEntry) → AllByRecursion (λ q. slice_cmp nat_cmp k q ≡ Less) (paths_of (rows es)) → has (rows es) k ≡ false
above_others k [] h = refl
above_others k (e ∷ es) h =
    let other : bytes_eq k e.0.items ≡ false = sym (is_eq-slice_cmp k e.0.items) ∙ ap is_eq h.0 in
    ap (λ b. is_some (cond b (Some (row e)) (row_at k (rows es)))) other ∙ above_others k es h.1

-- what a removal from the map leaves
pub rows-remove : (q : List ℕ) (es : List MapEntry) → IsStrictlySortedBy (slice_cmp nat_cmp) (paths_of (rows es))
    → rows (remove_entry (is_at (λ (k : Vec ℕ Global). slice_cmp nat_cmp q k.items)) es) ≡ filter (is_other q) (rows es)
unfolding IsStrictlySortedBy
rows-remove q [] h = refl
rows-remove q (e ∷ es) h = rw (is_eq-slice_cmp q e.0.items) (go (bytes_eq q e.0.items) refl (rows-remove q es h.1))
  where
    go : (b : Bool) → b ≡ bytes_eq q e.0.items
        → rows (remove_entry (is_at (λ (k : Vec ℕ Global). slice_cmp nat_cmp q k.items)) es)
        ≡ filter (is_other q) (rows es)
        → rows (cond b es (e ∷ remove_entry (is_at (λ (k : Vec ℕ Global). slice_cmp nat_cmp q k.items)) es))
        ≡ cond (not b) (row e ∷ filter (is_other q) (rows es)) (filter (is_other q) (rows es))
    go true same rest = let k : q ≡ e.0.items = (bytes_eq-Decides q e.0.items).0 (sym same) in
        sym (kept_all q (rows es) (ap (has (rows es)) k ∙ above_others e.0.items es h.0))
    go false other rest = ap (λ l. row e ∷ l) rest
