-- Walks over the records of an archive, and archives that are as a history makes them.
use Rattle.std.proofs.Common.{◌≡◌, ◌==◌, ◌+◌, ◌<◌, ◌≤◌, ◌||◌, ◌++◌, ◌∷◌, ◌∙◌, [], ℕ, zero, suc, pos, List, Vec, Bool, true, false, cond}
use Rattle.std.proofs.Common.{Option, Some, None, option_map, find, map, get_or, length, nat_le, refl, ap, ap₂, sym, subst, arith, slice_get}
use Rattle.std.specs.List.{AllByRecursion, list_any}
use Rattle.std.specs.BTreeMap.{btree_map_len, get, is_at}
use Rattle.std.specs.Map.{lookup}
use Rattle.std.specs.Option.{option_and_then}
use Rattle.std.specs.Ordering.{nat_cmp}
use Rattle.std.specs.Prelude.{IfSome, is_some}
use Rattle.std.specs.declared.alloc.Global.{Global}
use Rattle.std.proofs.lemmas.Bool.{false≢true}
use Rattle.std.proofs.lemmas.Bool.Decides.{nat_tests}
use Rattle.std.proofs.lemmas.List.{append_assoc, append-nil, nil_from_length}
use Rattle.std.proofs.lemmas.List.Elements.{recursion_from_All}
use Rattle.class_plan.specs.Plans.{Listing}
use Rattle.record_archive.specs.Archive.{Archive, IsArchive, IsRecord, Record, has_number, record_at}
use Rattle.record_archive.specs.Lists.{IsAscending}
use Rattle.record_choice.specs.Entries as plain
use Rattle.record_choice.specs.Entries.{entry_of, entry_view, hold_names, records_from}
use Rattle.record_choice.specs.Walks.{records_after}
use Rattle.record_choice.specs.declared.entry.RecordEntry.{RecordEntry}
use Rattle.record_choice.proofs.DestructionLaws.{found_has}
use Rattle.record_choice.proofs.PageLaws.{all_kept, all_weaker, filter_all}
use Rattle.record_judge.specs.Sealed.{record_view}
use Rattle.record_judge.specs.declared.sealed.SealedArchive.{SealedArchive}
use Rattle.record_judge.specs.declared.sealed.SealedRecord.{SealedRecord}
use Rattle.cli_history.specs.Compared.{Begins, HasMet, IsTold, IsThere, Row, is_alike, is_same, record_told, row_of, row_told, seals_of}
use Rattle.cli_history.specs.Made.{AreSealsOf, HasSealed, IsMadeAt, IsMadeBy, are_names, last_numbered, names_of, record_of}
use Rattle.cli_history.specs.Seals.{later}
use Rattle.cli_history.specs.Walks.{GoesOnIn, IsNextEntries}
use Rattle.cli_history.specs.declared.comparison.Comparison.{Comparison}
use Rattle.cli_history.specs.declared.comparison.Depth.{Depth}
use Rattle.cli_history.specs.declared.comparison.Depth.TheVariants.{Rows, Messages}
use Rattle.cli_history.specs.declared.stored.StoredSeals.{StoredSeals}
use Rattle.cli_history.proofs.ComparisonLemmas.{both_true}
use Rattle.cli_history.proofs.WalkLemmas.{later_bound}

-- ---- the entries of an archive are there

abbrev Below : Record → Record → Type 0
Below x y = x.number < y.number

abbrev IsFoundIn : List Record → Record → Type 0
IsFoundIn rs r = find (has_number r.number) rs ≡ Some r

found_first : (r : Record) (rs : List Record) → IsFoundIn (r ∷ rs) r
found_first r rs =
    let same : (r.number == r.number) ≡ true = grind arith in
    ap (λ b. cond b (Some r) (find (has_number r.number) rs)) same

found_later : (r : Record) (rs xs : List Record) → AllByRecursion (Below r) xs → AllByRecursion (IsFoundIn rs) xs
    → AllByRecursion (IsFoundIn (r ∷ rs)) xs
found_later r rs [] low all = tt
found_later r rs (x ∷ xs) low all = (
  let below : r.number < x.number = low.0 in
      let other : (r.number == x.number) ≡ false = grind (arith, nat_tests, below) in
      ap (λ b. cond b (Some r) (find (has_number x.number) rs)) other ∙ all.0,
  found_later r rs xs low.1 all.1,
)

each_found : (rs : List Record) → IsAscending Below rs → AllByRecursion (IsFoundIn rs) rs
each_found [] up = tt
each_found (r ∷ rs) up = (found_first r rs, found_later r rs rs up.0 (each_found rs up.1))

mapped_all : {X Y : Type 0} (P : Y → Type 0) (f : X → Y) (xs : List X) → AllByRecursion (λ x. P (f x)) xs → AllByRecursion P (map f xs)
mapped_all P f [] all = tt
mapped_all P f (x ∷ xs) all = (all.0, mapped_all P f xs all.1)

front_all : {X : Type 0} (P : X → Type 0) (xs ys : List X) → AllByRecursion P (xs ++ ys) → AllByRecursion P xs
front_all P [] ys all = tt
front_all P (x ∷ xs) ys all = (all.0, front_all P xs ys all.1)

pub at_all : {X Y : Type 0} (P : Y → Type 0) (f : X → Y) (xs : List X) (i : ℕ) (d : X) → i < length xs → AllByRecursion P (map f xs)
    → P (f (get_or xs i d))
at_all P f [] i d low all = absurd (omega (arith, low))
at_all P f (x ∷ xs) zero d low all = all.0
at_all P f (x ∷ xs) (suc i) d low all = at_all P f xs i d (omega (arith, low)) all.1

there_after : (a : Archive) → IsArchive a → (from : Option ℕ) → AllByRecursion (IsThere a) (map (entry_of a) (records_after a from))
there_after a is None = tt
there_after a is (Some n) =
    mapped_all (IsThere a) (entry_of a) (records_from a n) (all_kept (λ r. IsThere a (entry_of a r)) (λ (r : Record). nat_le n r.number) a.records
    (all_weaker (IsFoundIn a.records) (λ r. IsThere a (entry_of a r)) (λ r found. (r, found, refl)) a.records (each_found a.records is.in_order)))

-- the entries of a page are those of records of the archive
pub page_there : (a : Archive) → IsArchive a → (before after : Option ℕ) (page : List RecordEntry) → GoesOnIn a before after page
    → AllByRecursion (IsThere a) (map entry_view page)
page_there a is before after page on =
    front_all (IsThere a) (map entry_view page) (map (entry_of a) (records_after a after))
    (subst (AllByRecursion (IsThere a)) on.joined (there_after a is before))

-- ---- a walk that was begun

-- something holds of the entries so far, and the others are left
pub record WalkedIn (P : List plain.RecordEntry → Type 0) (a : Archive) (from : Option ℕ) (index : ℕ) : Type 0 where
  pub front : List plain.RecordEntry
  pub split : map (entry_of a) a.records ≡ front ++ map (entry_of a) (records_after a from)
  pub holds : P front
  pub bound : IfSome from (λ n. (index < n) × (n < 4294967296))

from_one : (a : Archive) → IsArchive a → records_from a 1 ≡ a.records
from_one a is =
    filter_all (λ (r : Record). nat_le 1 r.number) a.records
    (all_weaker (IsRecord a) (λ r. nat_le 1 r.number ≡ true) (λ r one. let low : 1 ≤ r.number = one.number.0 in grind (arith, nat_tests, low))
    a.records (recursion_from_All (IsRecord a) a.records is.records))

pub walked_first : (P : List plain.RecordEntry → Type 0) (a : Archive) → IsArchive a → P [] → WalkedIn P a (Some 1) 0
walked_first P a is holds =
    record { front = []; split = ap (map (entry_of a)) (sym (from_one a is)); holds = holds; bound = (omega arith, omega arith) }

pub walked_on : (P Q : List plain.RecordEntry → Type 0) (a : Archive) (before after : Option ℕ) (index : ℕ) (page : List RecordEntry)
    → WalkedIn P a before index → GoesOnIn a before after page → ((front : List plain.RecordEntry) → P front → Q (front ++ map entry_view page))
    → WalkedIn Q a after (index + 1)
walked_on P Q a before after index page so_far on does =
    let at = subst (λ (o : Option ℕ). IfSome o (λ n. (index < n) × (n < 4294967296))) on.advances.stood so_far.bound in
    record {
      front = so_far.front ++ map entry_view page;
      split = so_far.split ∙ ap (λ rest. so_far.front ++ rest) on.joined
          ∙ sym (append_assoc so_far.front (map entry_view page) (map (entry_of a) (records_after a after)));
      holds = does so_far.front so_far.holds;
      bound = later_bound index on.advances.number after at.0 on.advances.later;
    }

pub walked_to_end : (P : List plain.RecordEntry → Type 0) (a : Archive) (from : Option ℕ) (index : ℕ) → WalkedIn P a from index
    → records_after a from ≡ [] → P (map (entry_of a) a.records)
walked_to_end P a from index walked none =
    subst P (sym (walked.split ∙ ap (λ rest. walked.front ++ map (entry_of a) rest) none ∙ append-nil walked.front)) walked.holds

pub walked_past : (P : List plain.RecordEntry → Type 0) (a : Archive) (from : Option ℕ) (index : ℕ) → WalkedIn P a from index
    → 4294967296 ≤ index → P (map (entry_of a) a.records)
walked_past P a (Some n) index walked past = absurd (omega (arith, walked.bound.0, walked.bound.1, past))
walked_past P a None index walked past = walked_to_end P a None index walked refl

-- what the next page says where there is one, and where there is none
pub entries_some : (a : Archive) (before after : Option ℕ) (o : Option (Vec RecordEntry Global)) (page : Vec RecordEntry Global)
    → o ≡ Some page → IsNextEntries a before after o → GoesOnIn a before after page.items
entries_some a before after o page is next = subst (IsNextEntries a before after) is next

pub entries_end : (a : Archive) (before after : Option ℕ) (o : Option (Vec RecordEntry Global)) → o ≡ None → IsNextEntries a before after o
    → records_after a before ≡ []
entries_end a before after o is next = subst (IsNextEntries a before after) is next

-- ---- an archive that is as the history makes it

numbered_if : {X : Type 0} (number : X → ℕ) (b : Bool) (n : ℕ) (x y : X) → (n == number x) ≡ b → cond b (Some x) None ≡ Some y → number y ≡ n
numbered_if number true n x y same is =
    let one : x ≡ y = cc in
    let e : n ≡ number x = grind (arith, nat_tests, same) in ap number (sym one) ∙ sym e
numbered_if number false n x y same is = absurd cc

-- what has a number has it
numbered_has : {X : Type 0} (number : X → ℕ) (xs : List X) (n : ℕ) (y : X) → last_numbered number xs n ≡ Some y → number y ≡ n
numbered_has number [] n y is = absurd cc
numbered_has {X = X} number (x ∷ xs) n y is = go (last_numbered number xs n) (numbered_has number xs n y) is
  where
    go : (o : Option X) → (o ≡ Some y → number y ≡ n) → later o (cond (n == number x) (Some x) None) ≡ Some y → number y ≡ n
    go None among is = numbered_if number (n == number x) n x y refl is
    go (Some z) among is = among is

-- a record with the row that is told is the one that is told
row_is : (r : Record) (told : SealedRecord) (e : plain.RecordEntry) → e.message ≡ r.message → e.path ≡ r.path → e.day ≡ pos r.day
    → e.destroyed ≡ r.destroyed → row_of e ≡ row_told told → told.number ≡ r.number → r ≡ record_view told
row_is r told e message_is path_is day_is gone_is row number =
    let n : r.number ≡ told.number = sym number in
    let m : r.message ≡ told.message = sym message_is ∙ ap (λ (x : Row). x.message) row in
    let p : r.path ≡ told.path.items = sym path_is ∙ ap (λ (x : Row). x.path) row in
    let both : pos r.day ≡ pos told.day = sym day_is ∙ ap (λ (x : Row). x.day) row in
    let d : r.day ≡ told.day = cc in
    let gone : r.destroyed ≡ told.destroyed = sym gone_is ∙ ap (λ (x : Row). x.destroyed) row in
    λ i. record { number = n i; message = m i; path = p i; day = d i; destroyed = gone i }

found_all : (P : plain.RecordEntry → Type 0) (f : Record → plain.RecordEntry) (p : Record → Bool) (rs : List Record) (r : Record)
    → AllByRecursion P (map f rs) → find p rs ≡ Some r → P (f r)
found_all P f p [] r all is = absurd cc
found_all P f p (x ∷ rs) r all is = go (p x) (found_all P f p rs r all.1) is
  where
    go : (b : Bool) → (find p rs ≡ Some r → P (f r)) → cond b (Some x) (find p rs) ≡ Some r → P (f r)
    go true later one = let e : x ≡ r = cc in subst (λ y. P (f y)) e all.0
    go false later more = later more

equal_both_ways : (m n : ℕ) → (m == n) ≡ (n == m)
equal_both_ways m n = go (m == n) refl
  where
    go : (b : Bool) → (m == n) ≡ b → b ≡ (n == m)
    go true e = let same : m ≡ n = grind (arith, nat_tests, e) in grind (arith, nat_tests, same)
    go false e = grind (arith, nat_tests, e)

none_has : (a : Archive) (n : ℕ) (rs : List Record) → find (has_number n) rs ≡ None
    → list_any (λ (e : plain.RecordEntry). n == e.number) (map (entry_of a) rs) ≡ false
none_has a n [] none = refl
none_has a n (x ∷ rs) none = go (x.number == n) refl (none_has a n rs) none
  where
    go : (b : Bool) → (x.number == n) ≡ b
        → (find (has_number n) rs ≡ None → list_any (λ (e : plain.RecordEntry). n == e.number) (map (entry_of a) rs) ≡ false)
        → cond b (Some x) (find (has_number n) rs) ≡ None
        → ((n == x.number) || list_any (λ (e : plain.RecordEntry). n == e.number) (map (entry_of a) rs)) ≡ false
    go true e rest is = absurd cc
    go false e rest is = ap₂ ◌||◌ (equal_both_ways n x.number ∙ e) (rest is)

module _ (a : Archive) (made : SealedArchive) (first mid : Comparison) (depth : Depth) (plan : Listing) (begins : Begins made plan depth first)
    (met : HasMet a first mid (map (entry_of a) a.records)) (told : AllByRecursion (IsTold a first) (map (entry_of a) a.records))
    (left : (n : ℕ) → get nat_cmp mid.records n ≡ None) where
  told_at : (n : ℕ) (r : Record) → record_at a n ≡ Some r → IsTold a first (entry_of a r)
  told_at n r is = found_all (IsTold a first) (entry_of a) (has_number n) a.records r told is

  some_made : (n : ℕ) (r : Record) → record_at a n ≡ Some r → Some r ≡ option_map record_view (record_of made n)
  some_made n r is =
      let it = told_at n r is in
      let number : r.number ≡ n = found_has n a.records r is in
      let made_is : record_of made n ≡ Some it.told =
      sym (begins.records n) ∙ ap (record_told first) (sym number) ∙ it.told_is in
      let same : it.told.number ≡ r.number =
      numbered_has (λ (x : SealedRecord). x.number) made.records.items n it.told made_is ∙ sym number in
      ap (λ x. Some x) (row_is r it.told (entry_of a r) refl refl refl refl it.row same) ∙ sym (ap (option_map record_view) made_is)

  none_made : (n : ℕ) → record_at a n ≡ None → None ≡ option_map record_view (record_of made n)
  none_made n is =
      let any : list_any (λ (e : plain.RecordEntry). n == e.number) (map (entry_of a) a.records) ≡ false = none_has a n a.records is in
      let was : get nat_cmp first.records n ≡ None =
      sym (met.left n ∙ ap (λ b. cond b None (get nat_cmp first.records n)) any) ∙ left n in
      let none : record_of made n ≡ None =
      sym (begins.records n) ∙ ap (option_and_then (λ place. slice_get first.made.now.records.items place)) was in
      sym (ap (option_map record_view) none)

  pub each_made : (n : ℕ) → record_at a n ≡ option_map record_view (record_of made n)
  each_made n = go (record_at a n) refl
    where
      go : (o : Option Record) → record_at a n ≡ o → o ≡ option_map record_view (record_of made n)
      go (Some r) is = some_made n r is
      go None is = none_made n is

  pub holds_made : (n : ℕ) → is_some (record_at a n) ≡ true → are_names (hold_names a n) (names_of made.holds.items n) ≡ true
  holds_made n some = go (record_at a n) refl some
    where
      go : (o : Option Record) → record_at a n ≡ o → is_some o ≡ true → are_names (hold_names a n) (names_of made.holds.items n) ≡ true
      go None is some = absurd (false≢true some)
      go (Some r) is some =
          let number : r.number ≡ n = found_has n a.records r is in
          subst (λ k. are_names (hold_names a k) (names_of made.holds.items k) ≡ true) number
          (ap (are_names (hold_names a r.number)) (sym (begins.names r.number)) ∙ (told_at n r is).names)

  pub messages_made : (s : StoredSeals) → depth ≡ Messages s → AreSealsOf a s → HasSealed made a
  messages_made s is are n r found live =
      let stored : first.stored ≡ Some s = begins.stored ∙ ap seals_of is in
      let it = (told_at n r found).message (ap is_some stored)
      (subst (λ (o : Option StoredSeals). IfSome o (AreSealsOf a)) (sym stored) are) live in
      (it.0, sym (begins.messages r.message) ∙ it.1, it.2)

-- what is left of a map without entries
no_places : (c : Comparison) → is_same c ≡ true → (n : ℕ) → get nat_cmp c.records n ≡ None
no_places c same n =
    let none : length c.records.entries ≡ 0 =
    let zero = (both_true (is_alike c) (btree_map_len c.records == 0) same).1 in grind (arith, nat_tests, zero) in
    ap (lookup (is_at (nat_cmp n))) (nil_from_length c.records.entries none)

-- THE COMPARISON ENDS: where nothing differs, the archive is as the history makes it, as far as it was compared
pub made_at : (depth : Depth) (made : SealedArchive) (a : Archive) (first mid last : Comparison) (plan : Listing) → plan ≡ a.plan
    → Begins made plan depth first → HasMet a first mid (map (entry_of a) a.records) → (is_alike last ≡ true → is_alike mid ≡ true)
    → last.records ≡ mid.records → is_same last ≡ true → IsMadeAt depth made a
made_at depth made a first mid last plan plan_is begins met stays records same = go depth refl
  where
    alike : is_alike last ≡ true
    alike = (both_true (is_alike last) (btree_map_len last.records == 0) same).0

    told : (is_alike first ≡ true) × AllByRecursion (IsTold a first) (map (entry_of a) a.records)
    told = met.alike (stays alike)

    left : (n : ℕ) → get nat_cmp mid.records n ≡ None
    left n = ap (λ m. get nat_cmp m n) (sym records) ∙ no_places last same n

    rows : IsMadeBy made a
    rows = record {
      plan = sym plan_is ∙ begins.planned told.0;
      records = each_made a made first mid depth plan begins met told.1 left;
      holds = holds_made a made first mid depth plan begins met told.1 left;
    }

    go : (d : Depth) → depth ≡ d → IsMadeAt d made a
    go Rows is = rows
    go (Messages s) is = (rows, messages_made a made first mid depth plan begins met told.1 left s is)
