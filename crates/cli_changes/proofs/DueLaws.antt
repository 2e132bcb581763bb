-- The numbers of the records that may be destroyed.
use Rattle.std.proofs.Common.{◌≡◌, ◌∙◌, ◌≤◌, ◌<◌, ◌+◌, ◌==◌, ◌&&◌, ◌||◌, ℕ, ℤ, pos, negsuc, Bool, true, false, not, cond}
use Rattle.std.proofs.Common.{List, [], ◌∷◌, map, filter, find, length, Option, Some, None, Result, Ok, Err, Ordering}
use Rattle.std.proofs.Common.{refl, sym, ap, ap₂, subst, arith, true≢false}
use Rattle.std.proofs.lemmas.Bool.Decides.{nat_tests}
use Rattle.std.specs.List.{AllByRecursion, list_any}
use Rattle.std.specs.List.Sorted.{IsPermutation}
use Rattle.std.specs.Ordering.{is_gt}
use Rattle.std.proofs.lemmas.List.Sorted.{IsPermutation-refl, IsPermutation-sym, IsPermutation-trans, IsPermutation-cons}
use Rattle.std.proofs.lemmas.List.Sorted.{IsPermutation-middle, IsPermutation-map, list_any-IsPermutation}
use Rattle.class_plan.specs.Plans.{schedule_at}
use Rattle.record_archive.specs.Archive.{Archive, IsArchive, Record, Line, record_at, has_number, is_held, is_by}
use Rattle.record_archive.specs.Archive.{is_due, due_of, due_list, due_list_on, destroys, destroy_by, from_1970}
use Rattle.record_archive.specs.Archive.{line_cmp, line_of, without}
use Rattle.record_archive.specs.Lists.{IsAscending, insert_sorted, sort_by}
use Rattle.record_archive.specs.declared.fault.ArchiveRefusal.{ArchiveRefusal}
use Rattle.record_archive.specs.declared.fault.ArchiveRefusal.TheVariants as refusal
use Rattle.record_choice.specs.Disposals.{asked_list, disposable_list, is_asked, is_one_of}
use Rattle.record_choice.specs.Reasons.{MayGo}
use Rattle.record_choice.proofs.DestructionLaws.{found_has}
use Rattle.cli_changes.specs.Destructions.{EachOnce, numbers_of}
use Rattle.cli_changes.proofs.CountLaws.{once_counted, picked, times, times_moved, times_once}

-- ---- each is listed once

times_less : {X : Type 0} (f : X → ℕ) (p : X → Bool) (n : ℕ) (xs : List X) → times n (map f (filter p xs)) ≤ times n (map f xs)
times_less f p n [] = omega arith
times_less f p n (x ∷ xs) = go (p x) (times_less f p n xs)
  where
    go : (b : Bool) → times n (map f (filter p xs)) ≤ times n (map f xs)
        → times n (map f (cond b (x ∷ filter p xs) (filter p xs))) ≤ cond (n == f x) 1 0 + times n (map f xs)
    go true more = omega (arith, more)
    go false more = omega (arith, more)

none_above : (n k : ℕ) (rs : List Record) → n ≤ k → AllByRecursion (λ (r : Record). k < r.number) rs
    → times n (map (λ (r : Record). r.number) rs) ≡ 0
none_above n k [] low h = refl
none_above n k (r ∷ rs) low h =
    let other : (n == r.number) ≡ false = let above = h.0 in grind (arith, nat_tests, low, above) in
    ap₂ (λ b m. cond b 1 0 + m) other (none_above n k rs low h.1)

once_ascending : (n : ℕ) (rs : List Record) → IsAscending (λ (x y : Record). x.number < y.number) rs
    → times n (map (λ (r : Record). r.number) rs) ≤ 1
once_ascending n [] up = omega arith
once_ascending n (r ∷ rs) up = go (n == r.number) refl (once_ascending n rs up.1)
  where
    go : (b : Bool) → (n == r.number) ≡ b → times n (map (λ (x : Record). x.number) rs) ≤ 1
        → cond b 1 0 + times n (map (λ (x : Record). x.number) rs) ≤ 1
    go true e more =
        let low : n ≤ r.number = grind (arith, nat_tests, e) in let none = none_above n r.number rs low up.0 in omega (arith, none)
    go false e more = omega (arith, more)

inserted : {X : Type 0} (cmp : X → X → Ordering) (x : X) (ys : List X) → IsPermutation (x ∷ ys) (insert_sorted cmp x ys)
inserted cmp x [] = IsPermutation-refl (x ∷ [])
inserted cmp x (y ∷ ys) = go (is_gt (cmp x y)) (inserted cmp x ys)
  where
    go : (b : Bool) → IsPermutation (x ∷ ys) (insert_sorted cmp x ys)
        → IsPermutation (x ∷ y ∷ ys) (cond b (y ∷ insert_sorted cmp x ys) (x ∷ y ∷ ys))
    go true more =
        IsPermutation-trans _ _ _ (IsPermutation-sym _ _ (IsPermutation-middle (y ∷ []) x ys)) (IsPermutation-cons y _ _ more)
    go false more = IsPermutation-refl (x ∷ y ∷ ys)

sorted : {X : Type 0} (cmp : X → X → Ordering) (xs : List X) → IsPermutation xs (sort_by cmp xs)
sorted cmp [] = IsPermutation-refl []
sorted cmp (x ∷ xs) = IsPermutation-trans _ _ _ (IsPermutation-cons x _ _ (sorted cmp xs)) (inserted cmp x (sort_by cmp xs))

lines_numbered : (a : Archive) (rs : List Record) → numbers_of (map (line_of a) rs) ≡ map (λ (r : Record). r.number) rs
lines_numbered a [] = refl
lines_numbered a (r ∷ rs) = ap (λ l. r.number ∷ l) (lines_numbered a rs)

due_once : (a : Archive) → IsArchive a → (day n : ℕ) → times n (numbers_of (due_list a day)) ≤ 1
due_once a is day n =
    let lines = map (line_of a) (filter (is_due a day) a.records) in
    let moved =
    times_moved n (numbers_of lines) (numbers_of (due_list a day)) (IsPermutation-map (λ (l : Line). l.number) _ _ (sorted line_cmp lines)) in
    let numbered = ap (times n) (lines_numbered a (filter (is_due a day) a.records)) in
    let less = times_less (λ (r : Record). r.number) (is_due a day) n a.records in
    let once = once_ascending n a.records is.in_order in
    omega (arith, moved, numbered, less, once)

due_once_on : (a : Archive) → IsArchive a → (day : ℤ) (n : ℕ) → times n (numbers_of (due_list_on a day)) ≤ 1
due_once_on a is (pos m) n = due_once a is m n
due_once_on a is (negsuc m) n = omega arith

pub disposable_once : (a : Archive) → IsArchive a → (day : ℤ) → EachOnce (numbers_of (disposable_list a day))
disposable_once a is day =
    once_counted (numbers_of (disposable_list a day)) (λ n.
    let less = times_less (λ (l : Line). l.number) (λ (l : Line). destroys (schedule_at a.plan l.path)) n (due_list_on a day) in
    let once = due_once_on a is day n in
    omega (arith, less, once))

pub numbers_filtered : (q : ℕ → Bool) (ls : List Line) → numbers_of (filter (λ (l : Line). q l.number) ls) ≡ filter q (numbers_of ls)
numbers_filtered q [] = refl
numbers_filtered q (l ∷ ls) = go (q l.number) (numbers_filtered q ls)
  where
    go : (b : Bool) → numbers_of (filter (λ (x : Line). q x.number) ls) ≡ filter q (numbers_of ls)
        → numbers_of (cond b (l ∷ filter (λ (x : Line). q x.number) ls) (filter (λ (x : Line). q x.number) ls))
        ≡ cond b (l.number ∷ filter q (numbers_of ls)) (filter q (numbers_of ls))
    go true more = ap (λ k. l.number ∷ k) more
    go false more = more

-- each that is asked for is listed once
pub asked_once : (a : Archive) → IsArchive a → (day : ℤ) (asked : List ℕ) → EachOnce (numbers_of (asked_list a day asked))
asked_once a is day asked =
    once_counted (numbers_of (asked_list a day asked)) (λ n.
    let less = times_less (λ (l : Line). l.number) (λ (l : Line). is_asked asked l.number) n (disposable_list a day) in
    let once = times_once (numbers_of (disposable_list a day)) (disposable_once a is day) n in
    omega (arith, less, once))

-- ---- what may be destroyed is listed

any_map : {X Y : Type 0} (q : Y → Bool) (f : X → Y) (xs : List X) → list_any q (map f xs) ≡ list_any (λ x. q (f x)) xs
any_map q f [] = refl
any_map q f (x ∷ xs) = ap (λ b. q (f x) || b) (any_map q f xs)

any_filter : {X : Type 0} (q p : X → Bool) (xs : List X) → list_any q (filter p xs) ≡ list_any (λ x. p x && q x) xs
any_filter q p [] = refl
any_filter q p (x ∷ xs) = go (p x) (any_filter q p xs)
  where
    go : (b : Bool) → list_any q (filter p xs) ≡ list_any (λ x. p x && q x) xs
        → list_any q (cond b (x ∷ filter p xs) (filter p xs)) ≡ ((b && q x) || list_any (λ x. p x && q x) xs)
    go true more = ap (λ b. q x || b) more
    go false more = more

found_any : {X : Type 0} (p q : X → Bool) (xs : List X) (x : X) → find p xs ≡ Some x → q x ≡ true → list_any q xs ≡ true
found_any p q [] x e t = absurd cc
found_any p q (y ∷ ys) x e t = go (p y) e (found_any p q ys x)
  where
    go : (b : Bool) → cond b (Some y) (find p ys) ≡ Some x → (find p ys ≡ Some x → q x ≡ true → list_any q ys ≡ true) → (q y || list_any q ys) ≡ true
    go true e more = let is : y ≡ x = cc in ap (λ b. b || list_any q ys) (ap q is ∙ t)
    go false e more = ap (λ b. q y || b) (more e t) ∙ or_true (q y)
      where
        or_true : (b : Bool) → (b || true) ≡ true
        or_true true = refl
        or_true false = refl

judged_ok : (a b : Archive) (r : Record) (c d e f : Bool)
    → ◌≡◌ {A = Result Archive ArchiveRefusal} (cond c (Err refusal.Destroyed) (cond d (Err refusal.Held) (cond e (Err refusal.NotForDestruction)
    (cond f (Err refusal.NotDue) (Ok (without a r)))))) (Ok b)
    → (c ≡ false) × (d ≡ false) × (e ≡ false) × (f ≡ false)
judged_ok a b r true d e f h = absurd cc
judged_ok a b r false true e f h = absurd cc
judged_ok a b r false false true f h = absurd cc
judged_ok a b r false false false true h = absurd cc
judged_ok a b r false false false false h = (refl, refl, refl, refl)

abbrev goes : Archive → ℕ → Line → Bool
goes a n l = destroys (schedule_at a.plan l.path) && (n == l.number)

due_any : (a : Archive) (m n : ℕ) (r : Record) → record_at a n ≡ Some r → (is_due a m r && goes a n (line_of a r)) ≡ true
    → list_any (goes a n) (due_list a m) ≡ true
due_any a m n r at is =
    let lines = map (line_of a) (filter (is_due a m) a.records) in
    sym (list_any-IsPermutation (goes a n) lines (due_list a m) (sorted line_cmp lines))
    ∙ any_map (goes a n) (line_of a) (filter (is_due a m) a.records)
    ∙ any_filter (λ (x : Record). goes a n (line_of a x)) (is_due a m) a.records
    ∙ found_any (has_number n) (λ (x : Record). is_due a m x && goes a n (line_of a x)) a.records r at is

is_listed : (a b : Archive) (day : ℤ) (n : ℕ) (o : Option Record) → record_at a n ≡ o → destroy_by a n (from_1970 day) o ≡ Ok b
    → list_any (goes a n) (due_list_on a day) ≡ true
is_listed a b day n None at h = absurd cc
is_listed a b (negsuc m) n (Some r) at h =
    let no = judged_ok a b r r.destroyed (is_held a n) (not (destroys (schedule_at a.plan r.path))) true h in absurd (true≢false no.3)
is_listed a b (pos m) n (Some r) at h =
    let yes = judged_ok a b r r.destroyed (is_held a n) (not (destroys (schedule_at a.plan r.path))) (not (is_by m (due_of a r))) h in
    let own : r.number ≡ n = found_has n a.records r at in
    let free : is_held a r.number ≡ false = ap (is_held a) own ∙ yes.1 in
    let same : (n == r.number) ≡ true = grind (arith, nat_tests, own) in
    due_any a m n r at (all_true r.destroyed (is_held a r.number) (is_by m (due_of a r)) (destroys (schedule_at a.plan r.path)) (n == r.number)
    yes.0 free yes.3 yes.2 same)
  where
    all_true : (c d e f g : Bool) → c ≡ false → d ≡ false → not e ≡ false → not f ≡ false → g ≡ true
        → ((not c && (not d && e)) && (f && g)) ≡ true
    all_true true d e f g h i j k l = absurd (true≢false h)
    all_true false true e f g h i j k l = absurd (true≢false i)
    all_true false false false f g h i j k l = absurd (true≢false j)
    all_true false false true false g h i j k l = absurd (true≢false k)
    all_true false false true true g h i j k l = l

pub may_go_listed : (a : Archive) (day : ℤ) (n : ℕ) → MayGo a day n → is_one_of (numbers_of (disposable_list a day)) n ≡ true
may_go_listed a day n h =
    any_map (λ m. n == m) (λ (l : Line). l.number) (disposable_list a day)
    ∙ any_filter (λ (l : Line). n == l.number) (λ (l : Line). destroys (schedule_at a.plan l.path)) (due_list_on a day)
    ∙ is_listed a h.0 day n (record_at a n) refl h.1

all_at : (P : ℕ → Type 0) (ns : List ℕ) (n : ℕ) → AllByRecursion P ns → is_one_of ns n ≡ true → P n
all_at P [] n all e = absurd (true≢false (sym e))
all_at P (m ∷ ms) n all e = go (n == m) refl e (all_at P ms n all.1)
  where
    go : (b : Bool) → (n == m) ≡ b → (b || is_one_of ms n) ≡ true → (is_one_of ms n ≡ true → P n) → P n
    go true same e more = let is : n ≡ m = grind (arith, nat_tests, same) in subst P (sym is) all.0
    go false other e more = more e

-- THE RECORDS THAT ARE ASKED FOR are these, where each may be destroyed
pub asked_are : (a : Archive) → IsArchive a → (day : ℤ) (rs : List ℕ) → 0 < length rs → EachOnce rs → AllByRecursion (MayGo a day) rs
    → IsPermutation (numbers_of (asked_list a day rs)) rs
asked_are a is day [] some once may = absurd (omega (arith, some))
asked_are a is day (m ∷ ms) some once may =
    subst (λ l. IsPermutation l (m ∷ ms)) (sym (numbers_filtered (is_one_of (m ∷ ms)) (disposable_list a day)))
    (picked (m ∷ ms) (numbers_of (disposable_list a day)) once (disposable_once a is day)
    (λ n e. may_go_listed a day n (all_at (MayGo a day) (m ∷ ms) n may e)))
