-- Pages, joined, are what is chosen.
use Rattle.std.proofs.Common.{◌≡◌, ◌<◌, ◌≤◌, ◌+◌, ◌^◌, ℕ, zero, suc, Bool, true, false, cond, List, [], ◌∷◌, ◌++◌, map, filter, take, drop}
use Rattle.std.proofs.Common.{subst, find, nat_le, nat_lt, Option, Some, None, refl, sym, ap, ap₂, ◌∙◌, arith}
use Rattle.std.specs.Prelude.{IfSome}
use Rattle.std.specs.List.{AllByRecursion}
use Rattle.std.proofs.lemmas.Bool.Decides.{nat_tests}
use Rattle.std.proofs.lemmas.List.{take-append-drop}
use Rattle.std.proofs.lemmas.List.Elements.{filter-append, recursion_from_All}
use Rattle.record_archive.specs.Lists.{IsAscending}
use Rattle.record_archive.specs.Archive.{Archive, Record, IsArchive, IsRecord, has_number, record_at}
use Rattle.record_choice.specs.Entries.{RecordEntry, OfRecord, entry_of, records_from, entries_from}
use Rattle.record_choice.specs.Walks.{records_after, last_of, above}

abbrev pub Below : Record → Record → Type 0
Below x y = x.number < y.number

abbrev pub is_from : ℕ → Record → Bool
is_from n r = nat_le n r.number

-- ---- lists

pub all_weaker : {X : Type 0} (P Q : X → Type 0) → ((x : X) → P x → Q x) → (xs : List X) → AllByRecursion P xs → AllByRecursion Q xs
all_weaker P Q to [] h = tt
all_weaker P Q to (x ∷ xs) h = (to x h.0, all_weaker P Q to xs h.1)

pub all_kept : {X : Type 0} (P : X → Type 0) (p : X → Bool) (xs : List X) → AllByRecursion P xs → AllByRecursion P (filter p xs)
all_kept P p [] h = tt
all_kept P p (x ∷ xs) h = go (p x) (all_kept P p xs h.1)
  where
    go : (b : Bool) → AllByRecursion P (filter p xs) → AllByRecursion P (cond b (x ∷ filter p xs) (filter p xs))
    go true more = (h.0, more)
    go false more = more

ascending_kept : (p : Record → Bool) (xs : List Record) → IsAscending Below xs → IsAscending Below (filter p xs)
ascending_kept p [] h = tt
ascending_kept p (x ∷ xs) h = go (p x) (ascending_kept p xs h.1)
  where
    go : (b : Bool) → IsAscending Below (filter p xs) → IsAscending Below (cond b (x ∷ filter p xs) (filter p xs))
    go true more = (all_kept (Below x) p xs h.0, more)
    go false more = more

pub filter_all : {X : Type 0} (p : X → Bool) (xs : List X) → AllByRecursion (λ x. p x ≡ true) xs → filter p xs ≡ xs
filter_all p [] h = refl
filter_all p (x ∷ xs) h = ap₂ (λ b l. cond b (x ∷ l) l) h.0 (filter_all p xs h.1)

filter_none : {X : Type 0} (p : X → Bool) (xs : List X) → AllByRecursion (λ x. p x ≡ false) xs → filter p xs ≡ []
filter_none p [] h = refl
filter_none p (x ∷ xs) h = ap₂ (λ b l. cond b (x ∷ l) l) h.0 (filter_none p xs h.1)

mapped_one : {X Y : Type 0} (b : Bool) (f : X → Y) (x : X) (l : List Y) (rest : List X) → l ≡ map f rest
    → cond b (f x ∷ l) l ≡ map f (cond b (x ∷ rest) rest)
mapped_one true f x l rest more = ap (λ k. f x ∷ k) more
mapped_one false f x l rest more = more

pub filter_mapped : {X Y : Type 0} (p : Y → Bool) (f : X → Y) (xs : List X) → filter p (map f xs) ≡ map f (filter (λ x. p (f x)) xs)
filter_mapped p f [] = refl
filter_mapped p f (x ∷ xs) = mapped_one (p (f x)) f x (filter p (map f xs)) (filter (λ y. p (f y)) xs) (filter_mapped p f xs)

pub map_taken : {X Y : Type 0} (f : X → Y) (n : ℕ) (xs : List X) → take n (map f xs) ≡ map f (take n xs)
map_taken f zero xs = refl
map_taken f (suc n) [] = refl
map_taken f (suc n) (x ∷ xs) = ap (λ l. f x ∷ l) (map_taken f n xs)

-- ---- numbers

pub yes : (m n : ℕ) → m ≤ n → nat_le m n ≡ true
yes m n h = grind (arith, nat_tests, h)

pub no : (m n : ℕ) → n < m → nat_le m n ≡ false
no m n h = grind (arith, nat_tests, h)

-- ---- where a page ends

-- the number of the last of some records, the first of which has this one
abbrev last_from : ℕ → List Record → ℕ
last_from n [] = n
last_from n (r ∷ rs) = last_from r.number rs

last_high : (r : Record) (rs : List Record) (k : ℕ) → IsAscending Below (r ∷ rs) → r.number ≤ last_from r.number (take k rs)
last_high r rs zero up = omega arith
last_high r [] (suc k) up = omega arith
last_high r (s ∷ rs) (suc k) up = let more = last_high s rs k up.1 in let less = up.0.0 in omega (arith, more, less)

-- what comes after the first records are those with greater numbers
cut : (r : Record) (rs : List Record) (k : ℕ) → IsAscending Below (r ∷ rs)
    → filter (is_from (last_from r.number (take k rs) + 1)) (r ∷ rs) ≡ drop k rs
cut r rs zero up =
    ap (λ b. cond b (r ∷ filter (is_from (r.number + 1)) rs) (filter (is_from (r.number + 1)) rs)) (no (r.number + 1) r.number (omega arith))
    ∙ filter_all (is_from (r.number + 1)) rs (all_weaker (Below r) (λ x. is_from (r.number + 1) x ≡ true)
    (λ x less. yes (r.number + 1) x.number (omega (arith, less))) rs up.0)
cut r [] (suc k) up =
    ap (λ b. cond {A = List Record} b (r ∷ []) []) (no (r.number + 1) r.number (omega arith))
cut r (s ∷ rs) (suc k) up =
    let top = last_from s.number (take k rs) in
    let high = last_high s rs k up.1 in
    let less = up.0.0 in
    ap (λ b. cond b (r ∷ filter (is_from (top + 1)) (s ∷ rs)) (filter (is_from (top + 1)) (s ∷ rs)))
    (no (top + 1) r.number (omega (arith, high, less)))
    ∙ cut s rs k up.1

-- the last entry of a page has the number of its last record
last_shown : (a : Archive) (n : ℕ) (rs : List Record) → last_of (Some n) (map (entry_of a) rs) ≡ Some (last_from n rs)
last_shown a n [] = refl
last_shown a n (r ∷ rs) = last_shown a r.number rs

-- numbers from one on, among those from a smaller one on
from_again : (m n : ℕ) → m ≤ n → (rs : List Record) → filter (is_from n) (filter (is_from m) rs) ≡ filter (is_from n) rs
from_again m n low [] = refl
from_again m n low (r ∷ rs) = go (is_from m r) (is_from n r) refl refl (from_again m n low rs)
  where
    kept : List Record
    kept = filter (is_from m) rs

    go : (b c : Bool) → is_from m r ≡ b → is_from n r ≡ c → filter (is_from n) kept ≡ filter (is_from n) rs
        → filter (is_from n) (cond b (r ∷ kept) kept) ≡ cond c (r ∷ filter (is_from n) rs) (filter (is_from n) rs)
    go true true e f more = ap (λ b. cond b (r ∷ filter (is_from n) kept) (filter (is_from n) kept)) f ∙ ap (λ l. r ∷ l) more
    go true false e f more = ap (λ b. cond b (r ∷ filter (is_from n) kept) (filter (is_from n) kept)) f ∙ more
    go false false e f more = more
    go false true e f more = absurd (grind (arith, nat_tests, e, f, low))

first_high : (from : ℕ) (rs : List Record) → AllByRecursion (λ r. is_from from r ≡ true) (filter (is_from from) rs)
first_high from [] = tt
first_high from (r ∷ rs) = go (is_from from r) refl (first_high from rs)
  where
    go : (b : Bool) → is_from from r ≡ b → AllByRecursion (λ x. is_from from x ≡ true) (filter (is_from from) rs)
        → AllByRecursion (λ x. is_from from x ≡ true) (cond b (r ∷ filter (is_from from) rs) (filter (is_from from) rs))
    go true e more = (e, more)
    go false e more = more

is_high : (m n : ℕ) → nat_le m n ≡ true → m ≤ n
is_high m n h = grind (arith, nat_tests, h)

-- ---- the walk goes on where the page ended

low_all : (a : Archive) (n : ℕ) → 2 ^ 32 ≤ n → AllByRecursion (IsRecord a) a.records → filter (is_from n) a.records ≡ []
low_all a n big each =
    filter_none (is_from n) a.records (all_weaker (IsRecord a) (λ r. is_from n r ≡ false)
    (λ r one. let less = one.number.1 in no n r.number (omega (arith, less, big))) a.records each)

goes_on : (a : Archive) → IsArchive a → (n : ℕ) → records_after a (above (Some n)) ≡ filter (is_from (n + 1)) a.records
goes_on a is n = go (nat_lt (n + 1) (2 ^ 32)) refl
  where
    go : (b : Bool) → nat_lt (n + 1) (2 ^ 32) ≡ b
        → records_after a (cond b (Some (n + 1)) None) ≡ filter (is_from (n + 1)) a.records
    go true e = refl
    go false e =
        let big : 2 ^ 32 ≤ n + 1 = grind (arith, nat_tests, e) in
        sym (low_all a (n + 1) big (recursion_from_All (IsRecord a) a.records is.records))

-- what comes after a page of records is what comes after the number of its last
pub rest_is : (a : Archive) → IsArchive a → (from most : ℕ) → 1 ≤ most
    → records_after a (above (last_of None (map (entry_of a) (take most (records_from a from))))) ≡ drop most (records_from a from)
rest_is a is from zero some = absurd (omega (arith, some))
rest_is a is from (suc k) some =
    go (records_from a from) refl (ascending_kept (is_from from) a.records is.in_order) (first_high from a.records)
  where
    go : (rs : List Record) → records_from a from ≡ rs → IsAscending Below rs → AllByRecursion (λ r. is_from from r ≡ true) rs
        → records_after a (above (last_of None (map (entry_of a) (take (suc k) rs)))) ≡ drop (suc k) rs
    go [] e up high = refl
    go (r ∷ rs) e up high =
        let top = last_from r.number (take k rs) in
        let tall = last_high r rs k up in
        let low = is_high from r.number high.0 in
        ap (λ o. records_after a (above o)) (last_shown a r.number (take k rs)) ∙ goes_on a is top
        ∙ sym (from_again from (top + 1) (omega (arith, tall, low)) a.records) ∙ ap (filter (is_from (top + 1))) e ∙ cut r rs k up

-- ---- a page

-- those of a page that pass, and those after it, are those that pass
pub page_filtered : (p : Record → Bool) (a : Archive) → IsArchive a → (from most : ℕ) → 1 ≤ most
    → filter p (take most (records_from a from))
    ++ filter p (records_after a (above (last_of None (map (entry_of a) (take most (records_from a from))))))
    ≡ filter p (records_from a from)
page_filtered p a is from most some =
    let f = records_from a from in
    ap (λ l. filter p (take most f) ++ filter p l) (rest_is a is from most some)
    ∙ sym (filter-append p (take most f) (drop most f)) ∙ ap (filter p) (take-append-drop most f)

-- the entries of a page are those of its records
pub entries_taken : (a : Archive) (from most : ℕ) → take most (entries_from a from) ≡ map (entry_of a) (take most (records_from a from))
entries_taken a from most = map_taken (entry_of a) most (records_from a from)

-- ---- a walk moves on

up_from : (from top : ℕ) → from ≤ top → IfSome (above (Some top)) (λ n. from < n)
up_from from top h = go (nat_lt (top + 1) (2 ^ 32))
  where
    go : (b : Bool) → IfSome (cond b (Some (top + 1)) None) (λ n. from < n)
    go true = omega (arith, h)
    go false = tt

pub goes_up : (a : Archive) → IsArchive a → (from most : ℕ) → (es : List RecordEntry) (last : Option ℕ) → es ≡ take most (entries_from a from)
    → last ≡ last_of None es → IfSome (above last) (λ n. from < n)
goes_up a is from most es last are ends =
    subst (λ o. IfSome (above o) (λ n. from < n))
    (sym (ends ∙ ap (last_of None) (are ∙ map_taken (entry_of a) most (records_from a from))))
    (go most (records_from a from) (ascending_kept (is_from from) a.records is.in_order) (first_high from a.records))
  where
    go : (k : ℕ) (rs : List Record) → IsAscending Below rs → AllByRecursion (λ r. is_from from r ≡ true) rs
        → IfSome (above (last_of None (map (entry_of a) (take k rs)))) (λ n. from < n)
    go zero rs up high = tt
    go (suc k) [] up high = tt
    go (suc k) (r ∷ rs) up high =
        let top = last_from r.number (take k rs) in
        let tall = last_high r rs k up in
        let low = is_high from r.number high.0 in
        subst (λ o. IfSome (above o) (λ n. from < n)) (sym (last_shown a r.number (take k rs))) (up_from from top (omega (arith, tall, low)))

-- ---- the record of a number

find_none : (n : ℕ) (rs : List Record) → AllByRecursion (λ (x : Record). n < x.number) rs → find (has_number n) rs ≡ None
find_none n [] h = refl
find_none n (r ∷ rs) h =
    let less : n < r.number = h.0 in
    let apart : has_number n r ≡ false = grind (arith, nat_tests, less) in
    ap (λ b. cond b (Some r) (find (has_number n) rs)) apart ∙ find_none n rs h.1

-- the record of a number is the first of those from it on, if it is that one
pub found_first : (n : ℕ) (rs : List Record) → IsAscending Below rs
    → find (has_number n) rs ≡ find (has_number n) (take 1 (filter (is_from n) rs))
found_first n [] up = refl
found_first n (r ∷ rs) up = go (is_from n r) (has_number n r) refl refl (found_first n rs up.1)
  where
    go : (b c : Bool) → is_from n r ≡ b → has_number n r ≡ c → find (has_number n) rs ≡ find (has_number n) (take 1 (filter (is_from n) rs))
        → cond c (Some r) (find (has_number n) rs) ≡ find (has_number n) (take 1 (cond b (r ∷ filter (is_from n) rs) (filter (is_from n) rs)))
    go true true e f more = ap (λ b. cond {A = Option Record} b (Some r) None) (sym f)
    go true false e f more =
        let above : n < r.number = grind (arith, nat_tests, e, f) in
        find_none n rs (all_weaker (Below r) (λ x. n < x.number) (λ x less. omega (arith, above, less)) rs up.0)
        ∙ sym (ap (λ b. cond {A = Option Record} b (Some r) None) f)
    go false true e f more = absurd (grind (arith, nat_tests, e, f))
    go false false e f more = more

-- the last of the first, if there is one
pub data LastOf (a : Archive) (rs : List Record) (e : RecordEntry) : Type 0 where
  of : (r : Record) → rs ≡ r ∷ [] → e ≡ entry_of a r → LastOf a rs e

no_more : {X : Type 0} (xs : List X) (x : X) → xs ++ x ∷ [] ≡ [] → ⊥
no_more [] x e = absurd cc
no_more (y ∷ ys) x e = absurd cc

pub last_one : (a : Archive) (f : List Record) (xs : List RecordEntry) (e : RecordEntry) → xs ++ e ∷ [] ≡ map (entry_of a) (take 1 f)
    → LastOf a (take 1 f) e
last_one a [] xs e is = absurd (no_more xs e is)
last_one a (r ∷ rs) [] e is = of r refl cc
last_one a (r ∷ rs) (y ∷ ys) e is = absurd (no_more ys e cc)

-- the record of a number, by the last entry of a page of one
pub entry_found : (a : Archive) → IsArchive a → (n : ℕ) (xs : List RecordEntry) (e : RecordEntry) → xs ++ e ∷ [] ≡ take 1 (entries_from a n)
    → e.number ≡ n → OfRecord a n (λ r. e ≡ entry_of a r)
entry_found a is n xs e are same = go (last_one a (records_from a n) xs e (are ∙ entries_taken a n 1))
  where
    go : LastOf a (take 1 (records_from a n)) e → OfRecord a n (λ r. e ≡ entry_of a r)
    go (of r one shown) =
        let own : r.number ≡ n = sym (ap (λ (x : RecordEntry). x.number) shown) ∙ same in
        let has : has_number n r ≡ true = grind (arith, nat_tests, own) in (
          r,
          found_first n a.records is.in_order ∙ ap (find (has_number n)) one ∙ ap (λ b. cond {A = Option Record} b (Some r) None) has,
          shown,
        )

pub entry_other : (a : Archive) → IsArchive a → (n : ℕ) (xs : List RecordEntry) (e : RecordEntry) → xs ++ e ∷ [] ≡ take 1 (entries_from a n)
    → (e.number ≡ n → ⊥) → record_at a n ≡ None
entry_other a is n xs e are other = go (last_one a (records_from a n) xs e (are ∙ entries_taken a n 1))
  where
    go : LastOf a (take 1 (records_from a n)) e → record_at a n ≡ None
    go (of r one shown) =
        let number : e.number ≡ r.number = ap (λ (x : RecordEntry). x.number) shown in
        let hasnt : has_number n r ≡ false = lacks (has_number n r) refl (λ own. other (number ∙ own)) in
        found_first n a.records is.in_order ∙ ap (find (has_number n)) one ∙ ap (λ b. cond {A = Option Record} b (Some r) None) hasnt
      where
        lacks : (b : Bool) → has_number n r ≡ b → (r.number ≡ n → ⊥) → b ≡ false
        lacks true h no = let same : r.number ≡ n = grind (arith, nat_tests, h) in absurd (no same)
        lacks false h no = refl

pub entry_missing : (a : Archive) → IsArchive a → (n : ℕ) → [] ≡ take 1 (entries_from a n) → record_at a n ≡ None
entry_missing a is n are =
    found_first n a.records is.in_order ∙ ap (find (has_number n)) (go (take 1 (records_from a n)) (are ∙ entries_taken a n 1))
  where
    go : (rs : List Record) → [] ≡ map (entry_of a) rs → rs ≡ []
    go [] e = refl
    go (r ∷ rs) e = absurd cc
