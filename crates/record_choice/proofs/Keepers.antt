-- Which record keeps a message.
use Rattle.std.proofs.Common.{◌≡◌, ◌≤◌, ◌<◌, ◌+◌, ◌^◌, nat_lt, ◌==◌, ℤ, length, get_or, ap₂, ℕ, zero, suc, Bool}
use Rattle.std.proofs.Common.{true, false, not, cond, ◌&&◌, ◌||◌, List, [], ◌∷◌, ◌++◌, map, filter, find, take, drop}
use Rattle.std.proofs.Common.{Option, Some, None, option_map, refl, sym, ap, subst, ◌∙◌, arith}
use Rattle.std.specs.Prelude.{IfSome}
use Rattle.std.specs.List.{AllByRecursion, list_any}
use Rattle.std.proofs.lemmas.Bool.Decides.{nat_tests}
use Rattle.std.proofs.lemmas.List.{take-append-drop, drop_more, drop_all}
use Rattle.std.proofs.lemmas.List.Elements.{recursion_from_All}
use Rattle.record_archive.specs.Archive.{Archive, Record, IsArchive, IsRecord, is_live, is_shared}
use Rattle.record_archive.specs.Archive.{without, Message, body_of, destroy_on}
use Rattle.record_archive.specs.Calls.{Makes}
use Rattle.record_choice.specs.Entries.{RecordEntry, entry_of, records_from, entries_from}
use Rattle.record_choice.specs.Walks.{records_after, last_of, above}
use Rattle.record_choice.specs.Disposals.{Finds, search_after, Certificate, IsCertificate, IsKeptBy, IsKnown}
use Rattle.record_choice.specs.Disposals.{IsSummed, IsTold, keeps, keeps_entry, known_after}
use Rattle.record_choice.specs.declared.destruction.Summed.{Summed}
use Rattle.record_choice.specs.declared.destruction.Search.{Search}
use Rattle.record_choice.specs.declared.destruction.Search.TheVariants.{Found}
use Rattle.record_choice.proofs.DestructionLaws.{found_has, was_live, makes_more}
use Rattle.record_choice.proofs.PageLaws.{is_from, all_weaker, yes, rest_is, entries_taken, goes_up}

-- ---- lists

or_assoc : (x y z : Bool) → (x || (y || z)) ≡ ((x || y) || z)
or_assoc true y z = refl
or_assoc false y z = refl

or_true : (b c : Bool) → c ≡ true → (b || c) ≡ true
or_true true c e = refl
or_true false c e = e

any-append : {X : Type 0} (p : X → Bool) (xs ys : List X) → list_any p (xs ++ ys) ≡ (list_any p xs || list_any p ys)
any-append p [] ys = refl
any-append p (x ∷ xs) ys = ap (λ b. p x || b) (any-append p xs ys) ∙ or_assoc (p x) (list_any p xs) (list_any p ys)

none_any : {X : Type 0} (p : X → Bool) (xs : List X) → find p xs ≡ None → list_any p xs ≡ false
none_any p [] e = refl
none_any p (x ∷ xs) e = go (p x) e (none_any p xs)
  where
    go : (b : Bool) → cond b (Some x) (find p xs) ≡ None → (find p xs ≡ None → list_any p xs ≡ false) → (b || list_any p xs) ≡ false
    go true e more = absurd cc
    go false e more = more e

any_taken : {X : Type 0} (p : X → Bool) (k : ℕ) (xs : List X) → list_any p (take k xs) ≡ true → list_any p xs ≡ true
any_taken p zero xs e = absurd cc
any_taken p (suc k) [] e = absurd cc
any_taken p (suc k) (x ∷ xs) e = go (p x) e (any_taken p k xs)
  where
    go : (b : Bool) → (b || list_any p (take k xs)) ≡ true → (list_any p (take k xs) ≡ true → list_any p xs ≡ true)
        → (b || list_any p xs) ≡ true
    go true e more = refl
    go false e more = more e

any_filtered : {X : Type 0} (p q : X → Bool) (xs : List X) → list_any p (filter q xs) ≡ true → list_any p xs ≡ true
any_filtered p q [] e = absurd cc
any_filtered p q (x ∷ xs) e = go (q x) e (any_filtered p q xs)
  where
    here : (b : Bool) → (b || list_any p (filter q xs)) ≡ true → (list_any p (filter q xs) ≡ true → list_any p xs ≡ true)
        → (b || list_any p xs) ≡ true
    here true e more = refl
    here false e more = more e

    go : (b : Bool) → list_any p (cond b (x ∷ filter q xs) (filter q xs)) ≡ true
        → (list_any p (filter q xs) ≡ true → list_any p xs ≡ true) → (p x || list_any p xs) ≡ true
    go true e more = here (p x) e more
    go false e more = or_true (p x) (list_any p xs) (more e)

any_filtered_same : {X : Type 0} (p q : X → Bool) (xs : List X) → AllByRecursion (λ x. p x ≡ true → q x ≡ true) xs
    → list_any p (filter q xs) ≡ list_any p xs
any_filtered_same p q [] h = refl
any_filtered_same p q (x ∷ xs) h = go (p x) (q x) refl h.0 (any_filtered_same p q xs h.1)
  where
    go : (b c : Bool) → p x ≡ b → (p x ≡ true → c ≡ true) → list_any p (filter q xs) ≡ list_any p xs
        → list_any p (cond c (x ∷ filter q xs) (filter q xs)) ≡ (b || list_any p xs)
    go true true e h more = ap (λ b. b || list_any p (filter q xs)) e
    go true false e h more = let k = h e in absurd cc
    go false true e h more = ap (λ b. b || list_any p (filter q xs)) e ∙ more
    go false false e h more = more

any_weaker : {X : Type 0} (p q : X → Bool) (xs : List X) → list_any (λ x. p x && q x) xs ≡ true → list_any p xs ≡ true
any_weaker p q [] e = absurd cc
any_weaker p q (x ∷ xs) e = go (p x) (q x) e (any_weaker p q xs)
  where
    go : (b c : Bool) → ((b && c) || list_any (λ x. p x && q x) xs) ≡ true → (list_any (λ x. p x && q x) xs ≡ true → list_any p xs ≡ true)
        → (b || list_any p xs) ≡ true
    go true c e more = refl
    go false c e more = more e

-- ---- the entries of a page

find_shown : (m n : ℕ) (a : Archive) (rs : List Record)
    → find (keeps_entry m n) (map (entry_of a) rs) ≡ option_map (entry_of a) (find (keeps m n) rs)
find_shown m n a [] = refl
find_shown m n a (r ∷ rs) = go (keeps m n r) (find_shown m n a rs)
  where
    go : (b : Bool) → find (keeps_entry m n) (map (entry_of a) rs) ≡ option_map (entry_of a) (find (keeps m n) rs)
        → cond b (Some (entry_of a r)) (find (keeps_entry m n) (map (entry_of a) rs))
        ≡ option_map (entry_of a) (cond b (Some r) (find (keeps m n) rs))
    go true more = refl
    go false more = more

none_mapped : {X Y : Type 0} (f : X → Y) (o : Option X) → option_map f o ≡ None → o ≡ None
none_mapped f None e = refl
none_mapped f (Some x) e = absurd cc

-- where no entry of a page keeps the message, what comes after the page keeps it or nothing does
pub none_on_page : (a : Archive) → IsArchive a → (m n from most : ℕ) → 1 ≤ most → (es : List RecordEntry) → es ≡ take most (entries_from a from)
    → find (keeps_entry m n) es ≡ None
    → list_any (keeps m n) (records_after a (above (last_of None es))) ≡ list_any (keeps m n) (records_from a from)
none_on_page a is m n from most some es are none =
    let f = records_from a from in
    let shown : es ≡ map (entry_of a) (take most f) = are ∙ entries_taken a from most in
    let nobody : find (keeps m n) (take most f) ≡ None =
    none_mapped (entry_of a) (find (keeps m n) (take most f))
    (sym (find_shown m n a (take most f)) ∙ ap (find (keeps_entry m n)) (sym shown) ∙ none) in
    ap (λ l. list_any (keeps m n) (records_after a (above (last_of None l)))) shown ∙ ap (list_any (keeps m n)) (rest_is a is from most some)
    ∙ sym (ap (λ b. b || list_any (keeps m n) (drop most f)) (none_any (keeps m n) (take most f) nobody))
    ∙ sym (any-append (keeps m n) (take most f) (drop most f)) ∙ ap (list_any (keeps m n)) (take-append-drop most f)

same_number : (n : ℕ) → (n == n) ≡ true
same_number n = grind arith

found_any : (m n : ℕ) (a : Archive) (rs : List Record) (e : RecordEntry) → find (keeps_entry m n) (map (entry_of a) rs) ≡ Some e
    → list_any (λ x. keeps m n x && (x.number == e.number)) rs ≡ true
found_any m n a [] e at = absurd cc
found_any m n a (r ∷ rs) e at = go (keeps m n r) at (found_any m n a rs e)
  where
    go : (b : Bool) → cond b (Some (entry_of a r)) (find (keeps_entry m n) (map (entry_of a) rs)) ≡ Some e
        → (find (keeps_entry m n) (map (entry_of a) rs) ≡ Some e → list_any (λ x. keeps m n x && (x.number == e.number)) rs ≡ true)
        → ((b && (r.number == e.number)) || list_any (λ x. keeps m n x && (x.number == e.number)) rs) ≡ true
    go true at more =
        let same : entry_of a r ≡ e = cc in
        let number : r.number ≡ e.number = ap (λ (x : RecordEntry). x.number) same in
        ap (λ b. b || list_any (λ x. keeps m n x && (x.number == e.number)) rs)
        (subst (λ k. (r.number == k) ≡ true) number (same_number r.number))
    go false at more = more at

-- the entry of a page that keeps the message is that of a record
pub kept_by_entry : (a : Archive) (m n from most : ℕ) (es : List RecordEntry) (e : RecordEntry) → es ≡ take most (entries_from a from)
    → find (keeps_entry m n) es ≡ Some e → list_any (λ x. keeps m n x && (x.number == e.number)) a.records ≡ true
kept_by_entry a m n from most es e are at =
    let f = records_from a from in
    let shown : es ≡ map (entry_of a) (take most f) = are ∙ entries_taken a from most in
    any_filtered (λ x. keeps m n x && (x.number == e.number)) (is_from from) a.records
    (any_taken (λ x. keeps m n x && (x.number == e.number)) most f
    (found_any m n a (take most f) e (ap (find (keeps_entry m n)) (sym shown) ∙ at)))

kept_by_number : (a : Archive) (m n from most : ℕ) (es : List RecordEntry) (k : ℕ) → es ≡ take most (entries_from a from)
    → option_map (λ (e : RecordEntry). e.number) (find (keeps_entry m n) es) ≡ Some k
    → list_any (λ x. keeps m n x && (x.number == k)) a.records ≡ true
kept_by_number a m n from most es k are at = go (find (keeps_entry m n) es) refl at
  where
    go : (o : Option RecordEntry) → find (keeps_entry m n) es ≡ o → option_map (λ (e : RecordEntry). e.number) o ≡ Some k
        → list_any (λ x. keeps m n x && (x.number == k)) a.records ≡ true
    go None e at = absurd cc
    go (Some x) e at =
        let same : x.number ≡ k = cc in
        subst (λ j. list_any (λ y. keeps m n y && (y.number == j)) a.records ≡ true) same (kept_by_entry a m n from most es x are e)

-- what is found on a page
pub page_finds : (a : Archive) (m n from most : ℕ) (es : List RecordEntry) (k : ℕ) → es ≡ take most (entries_from a from)
    → Some k ≡ option_map (λ (e : RecordEntry). e.number) (find (keeps_entry m n) es) → Finds a m n from (Found k)
page_finds a m n from most es k are at = kept_by_number a m n from most es k are (sym at)

bounded : (o : Option ℕ) → IfSome (above o) (λ n. n < 2 ^ 32)
bounded None = tt
bounded (Some n) = go (nat_lt (n + 1) (2 ^ 32)) refl
  where
    go : (b : Bool) → nat_lt (n + 1) (2 ^ 32) ≡ b → IfSome (cond b (Some (n + 1)) None) (λ k. k < 2 ^ 32)
    go true e = grind (arith, nat_tests, e)
    go false e = tt

-- what was found, which is this
pub finds_in : (a : Archive) (m n from : ℕ) {x y : Search} → x ≡ y → Finds a m n from x → Finds a m n from y
finds_in a m n from {x} {y} same h = subst (Finds a m n from) same h

pub page_goes_on : (a : Archive) → IsArchive a → (m n from most : ℕ) → 1 ≤ most → (es : List RecordEntry) (o : Option ℕ)
    → es ≡ take most (entries_from a from)
    → None ≡ option_map (λ (e : RecordEntry). e.number) (find (keeps_entry m n) es) → o ≡ above (last_of None es) → Finds a m n from (search_after o)
page_goes_on a is m n from most some es o are none next = go o next
  where
    same : list_any (keeps m n) (records_after a (above (last_of None es))) ≡ list_any (keeps m n) (records_from a from)
    same = none_on_page a is m n from most some es are (none_mapped (λ (e : RecordEntry). e.number) (find (keeps_entry m n) es) (sym none))

    up : IfSome (above (last_of None es)) (λ k. from < k)
    up = goes_up a is from most es (last_of None es) are refl

    low : IfSome (above (last_of None es)) (λ k. k < 2 ^ 32)
    low = bounded (last_of None es)

    go : (p : Option ℕ) → p ≡ above (last_of None es) → Finds a m n from (search_after p)
    go None e = sym same ∙ ap (λ q. list_any (keeps m n) (records_after a q)) (sym e)
    go (Some k) e = (
      subst (λ q. IfSome q (λ j. from < j)) (sym e) up,
      subst (λ q. IfSome q (λ j. j < 2 ^ 32)) (sym e) low,
      ap (λ q. list_any (keeps m n) (records_after a q)) e ∙ same,
    )

-- ---- where the search begins

kept_message : (m n : ℕ) (x : Record) → keeps m n x ≡ true → x.message ≡ m
kept_message m n x e = go (is_live x) (x.message == m) refl e
  where
    go : (b c : Bool) → (x.message == m) ≡ c → (b && (c && not (x.number == n))) ≡ true → x.message ≡ m
    go true true h e = grind (arith, nat_tests, h)
    go true false h e = absurd cc
    go false c h e = absurd cc

-- the records of a message come after its number
pub begins_low : (a : Archive) → IsArchive a → (m n : ℕ) → list_any (keeps m n) (records_from a m) ≡ list_any (keeps m n) a.records
begins_low a is m n =
    any_filtered_same (keeps m n) (is_from m) a.records (all_weaker (IsRecord a) (λ x. keeps m n x ≡ true → is_from m x ≡ true)
    (λ x one kept. let same = kept_message m n x kept in let low = one.message.1 in yes m x.number (omega (arith, same, low)))
    a.records (recursion_from_All (IsRecord a) a.records is.records))

-- ---- what stays

-- a message that another record keeps is not removed
pub messages_stay : (a : Archive) (r : Record) (n k : ℕ) → r.number ≡ n → list_any (λ x. keeps r.message n x && (x.number == k)) a.records ≡ true
    → (without a r).messages ≡ a.messages
messages_stay a r n k own kept =
    let shared : is_shared a r ≡ true =
    ap (λ (i : ℕ). list_any (keeps r.message i) a.records) own ∙ any_weaker (keeps r.message n) (λ x. x.number == k) a.records kept in
    ap (λ b. cond b a.messages (filter (λ (m : Message). not (m.number == r.message)) a.messages)) shared

-- ---- the search through a page

module _ {V : Type 0} (view : V → RecordEntry) (vs : List V) where
  here : (v : V) (i : ℕ) → i < length vs → v ≡ get_or vs i v → drop i vs ≡ v ∷ drop (i + 1) vs
  here v i low is = drop_more vs i v low ∙ ap (λ x. x ∷ drop (i + 1) vs) (sym is)

  pub search_on : (p : RecordEntry → Bool) (v : V) (i : ℕ) → i < length vs → v ≡ get_or vs i v → p (view v) ≡ false
      → find p (map view (drop i vs)) ≡ find p (map view vs) → find p (map view (drop (i + 1) vs)) ≡ find p (map view vs)
  search_on p v i low is off so_far =
      sym (ap (λ b. cond b (Some (view v)) (find p (map view (drop (i + 1) vs)))) off)
      ∙ ap (λ l. find p (map view l)) (sym (here v i low is)) ∙ so_far

  pub search_found : (p : RecordEntry → Bool) (v : V) (i : ℕ) → i < length vs → v ≡ get_or vs i v → p (view v) ≡ true
      → find p (map view (drop i vs)) ≡ find p (map view vs) → Some (view v) ≡ find p (map view vs)
  search_found p v i low is on so_far =
      sym (ap (λ b. cond b (Some (view v)) (find p (map view (drop (i + 1) vs)))) on)
      ∙ ap (λ l. find p (map view l)) (sym (here v i low is)) ∙ so_far

  pub search_ended : (p : RecordEntry → Bool) (i : ℕ) → length vs ≤ i → find p (map view (drop i vs)) ≡ find p (map view vs)
      → None ≡ find p (map view vs)
  search_ended p i high so_far = ap (λ l. find p (map view l)) (sym (drop_all i vs high)) ∙ so_far

  pub last_on : (o : Option ℕ) (v : V) (i : ℕ) → i < length vs → v ≡ get_or vs i v
      → last_of o (map view (drop i vs)) ≡ last_of None (map view vs)
      → last_of (Some (view v).number) (map view (drop (i + 1) vs)) ≡ last_of None (map view vs)
  last_on o v i low is so_far = ap (λ l. last_of o (map view l)) (sym (here v i low is)) ∙ so_far

  pub last_ended : (o : Option ℕ) (i : ℕ) → length vs ≤ i → last_of o (map view (drop i vs)) ≡ last_of None (map view vs)
      → o ≡ last_of None (map view vs)
  last_ended o i high so_far = ap (λ l. last_of o (map view l)) (sym (drop_all i vs high)) ∙ so_far

-- ---- a message without another record

pub alone : (a : Archive) (r : Record) (m n : ℕ) → r.message ≡ m → r.number ≡ n → is_shared a r ≡ false
    → list_any (keeps m n) a.records ≡ false
alone a r m n same own none = ap₂ (λ x y. list_any (keeps x y) a.records) (sym same) (sym own) ∙ none

-- ---- certificates

known_stays : (a : Archive) (r : Record) (n : ℕ) (s : Summed) (o : Option ℕ) → IsSummed a s → s.message ≡ r.message → r.number ≡ n
    → IsKeptBy a r.message n o → IsKnown (without a r) (known_after s o)
known_stays a r n s None summed same own kept = tt
known_stays a r n s (Some k) summed same own kept =
    (summed.0, ap (λ ms. body_of ms s.message) (messages_stay a r n k own kept) ∙ summed.1, summed.2, summed.3)

-- what is told of a record that the command destroys is its certificate
pub told_gone : (P : Archive → Type 0) (a : Archive) (n : ℕ) (day : ℤ) (c : Certificate) (s : Summed) → IsTold a n c s
    → Makes P (destroy_on a n day)
    → IsCertificate a n c × Makes (λ b. P b × IsKnown b (known_after s c.kept_by)) (destroy_on a n day)
told_gone P a n day c s told makes =
    let r = told.0 in
    let found = told.1 in
    let live = was_live P a n day r found makes in
    let more = told.2.4 live in
    let summed = more.0 in
    let same = told.2.1 in (
      record {
        of = r;
        found = found;
        entry = told.2.0;
        body = summed.0;
        stored = ap (body_of a.messages) (sym same) ∙ summed.1;
        octets = told.2.2 ∙ summed.2;
        sum = told.2.3 ∙ summed.3;
        kept = more.1;
      },
      makes_more P (λ b. P b × IsKnown b (known_after s c.kept_by)) a n day r found
          (λ p. (p, known_stays a r n s c.kept_by summed same (found_has n a.records r found) more.1)) makes,
    )
