-- The records that are found, and on which of them a hold changes.
use Rattle.std.proofs.Common.{◌≡◌, ◌<◌, ◌==◌, ℕ, Bool, true, false, not, ◌||◌, ◌&&◌, cond, List, [], ◌∷◌, map, filter}
use Rattle.std.proofs.Common.{Some, None, refl, sym, ap, ap₂, ◌∙◌, arith, find, subst}
use Rattle.std.specs.List.{AllByRecursion, list_any}
use Rattle.std.specs.Str.{bytes_eq}
use Rattle.std.proofs.lemmas.Bool.Decides.{nat_tests}
use Rattle.std.proofs.lemmas.List.Elements.{recursion_from_All}
use Rattle.record_archive.specs.Archive.{Archive, IsArchive, Hold, Record, record_at, has_number, is_live, is_hold, is_held_by}
use Rattle.record_archive.specs.Lists.{IsAscending}
use Rattle.record_choice.specs.Choices.{named, meets_asked}
use Rattle.record_choice.specs.Entries.{RecordEntry, entry_of, hold_names}
use Rattle.record_choice.specs.Views.{shows_hold}
use Rattle.record_choice.proofs.EntryLaws.{held_shown}
use Rattle.record_choice.proofs.PageLaws.{Below, all_kept, filter_all}
use Rattle.cli_choice.specs.declared.holds.Change.{Change}
use Rattle.cli_choice.specs.declared.holds.Change.TheVariants.{Place, End}
use Rattle.choice_words.specs.declared.numbers.TypedNumbers.{TypedNumbers}
use Rattle.cli_choice.specs.Typed.{is_one}
use Rattle.cli_choice.specs.Holds.{is_changed, is_meant}
use Rattle.cli_choice.proofs.Parting.{all_found}
use Rattle.cli_console.specs.Finds.{numbers_of}
use Rattle.cli_changes.specs.Holdings.{changed_numbers, chosen_by, held_by, hold_command, is_any_of, meant_numbers}
use Rattle.cli_changes.proofs.SeriesLaws.{does}
use Rattle.cli_changes.proofs.HoldLaws.{both_off, ends, ends_is, places, places_is}

-- ---- in the order of their numbers

filtered_ascending : {X : Type 0} (R : X → X → Type 0) (p : X → Bool) (xs : List X) → IsAscending R xs → IsAscending R (filter p xs)
filtered_ascending R p [] up = tt
filtered_ascending R p (x ∷ xs) up = go (p x) (filtered_ascending R p xs up.1)
  where
    go : (b : Bool) → IsAscending R (filter p xs) → IsAscending R (cond b (x ∷ filter p xs) (filter p xs))
    go true more = (all_kept (R x) p xs up.0, more)
    go false more = more

all_mapped : {X Y : Type 0} (P : Y → Type 0) (f : X → Y) (xs : List X) → AllByRecursion (λ x. P (f x)) xs → AllByRecursion P (map f xs)
all_mapped P f [] h = tt
all_mapped P f (x ∷ xs) h = (h.0, all_mapped P f xs h.1)

mapped_ascending : {X Y : Type 0} (R : Y → Y → Type 0) (f : X → Y) (xs : List X) → IsAscending (λ x y. R (f x) (f y)) xs → IsAscending R (map f xs)
mapped_ascending R f [] up = tt
mapped_ascending R f (x ∷ xs) up = (all_mapped (R (f x)) f xs up.0, mapped_ascending R f xs up.1)

-- the numbers of some of the records that are found
pub numbers_ascending : (a : Archive) → IsArchive a → (p : RecordEntry → Bool) (q : Record → Bool)
    → IsAscending (λ (x y : ℕ). x < y) (numbers_of (filter p (map (entry_of a) (filter q a.records))))
numbers_ascending a is p q =
    mapped_ascending (λ (x y : ℕ). x < y) (λ (e : RecordEntry). e.number) (filter p (map (entry_of a) (filter q a.records)))
    (filtered_ascending (λ (x y : RecordEntry). x.number < y.number) p (map (entry_of a) (filter q a.records))
    (mapped_ascending (λ (x y : RecordEntry). x.number < y.number) (entry_of a) (filter q a.records)
    (filtered_ascending Below q a.records is.in_order)))

-- ---- each record is the one that its number finds

pub each_found : (a : Archive) → IsArchive a → (q : Record → Bool) → AllByRecursion (λ r. record_at a r.number ≡ Some r) (filter q a.records)
each_found a is q = all_kept (λ r. record_at a r.number ≡ Some r) q a.records (all_found a.records is.in_order)

-- ---- a hold keeps live records alone

none_later : (n : ℕ) (rs : List Record) → AllByRecursion (λ (x : Record). n < x.number) rs
    → list_any (λ (x : Record). is_live x && has_number n x) rs ≡ false
none_later n [] h = refl
none_later n (x ∷ xs) h =
    ap₂ (λ b c. (is_live x && b) || c) (grind (arith, nat_tests, h.0)) (none_later n xs h.1)
    ∙ ap (λ b. b || false) (both_off (is_live x))

live_one : (n : ℕ) (r : Record) (rs : List Record) → IsAscending Below rs → find (has_number n) rs ≡ Some r
    → list_any (λ (x : Record). is_live x && has_number n x) rs ≡ true → r.destroyed ≡ false
live_one n r [] up at live = absurd cc
live_one n r (x ∷ xs) up at live = go (has_number n x) x.destroyed refl refl at live (λ h k. live_one n r xs up.1 h k)
  where
    go : (b d : Bool) → has_number n x ≡ b → x.destroyed ≡ d → cond b (Some x) (find (has_number n) xs) ≡ Some r
        → ((not d && b) || list_any (λ (y : Record). is_live y && has_number n y) xs) ≡ true
        → (find (has_number n) xs ≡ Some r → list_any (λ (y : Record). is_live y && has_number n y) xs ≡ true → r.destroyed ≡ false)
        → r.destroyed ≡ false
    go true false e f at live more = let is : x ≡ r = cc in ap (λ (y : Record). y.destroyed) (sym is) ∙ f
    go true true e f at live more =
        let same : x.number ≡ n = grind (arith, nat_tests, e) in
        absurd (clash (list_any (λ (y : Record). is_live y && has_number n y) xs) live
        (none_later n xs (subst (λ k. AllByRecursion (λ (y : Record). k < y.number) xs) same up.0)))
      where
        clash : (b : Bool) → b ≡ true → b ≡ false → ⊥
        clash true t s = absurd cc
        clash false t s = absurd cc
    go false d e f at live more = more at (strip d live)
      where
        strip : (c : Bool) → ((not c && false) || list_any (λ (y : Record). is_live y && has_number n y) xs) ≡ true
            → list_any (λ (y : Record). is_live y && has_number n y) xs ≡ true
        strip true h = h
        strip false h = h

kept_live : (name : List ℕ) (n : ℕ) (rs : List Record) (hs : List Hold)
    → AllByRecursion (λ (h : Hold). list_any (λ (r : Record). is_live r && has_number h.number r) rs ≡ true) hs
    → list_any (is_hold name n) hs ≡ true → list_any (λ (r : Record). is_live r && has_number n r) rs ≡ true
kept_live name n rs [] each held = absurd cc
kept_live name n rs (h ∷ hs) each held = go (bytes_eq h.name name) (h.number == n) refl held (λ k. kept_live name n rs hs each.1 k)
  where
    go : (b c : Bool) → (h.number == n) ≡ c → ((b && c) || list_any (is_hold name n) hs) ≡ true
        → (list_any (is_hold name n) hs ≡ true → list_any (λ (r : Record). is_live r && has_number n r) rs ≡ true)
        → list_any (λ (r : Record). is_live r && has_number n r) rs ≡ true
    go true true e k more =
        let same : h.number ≡ n = grind (arith, nat_tests, e) in
        subst (λ m. list_any (λ (r : Record). is_live r && has_number m r) rs ≡ true) same each.0
    go true false e k more = more k
    go false c e k more = more k

held_live : (a : Archive) → IsArchive a → (name : List ℕ) (r : Record) → record_at a r.number ≡ Some r → is_held_by a name r.number ≡ true
    → r.destroyed ≡ false
held_live a is name r at held =
    live_one r.number r a.records is.in_order at
    (kept_live name r.number a.records a.holds
    (recursion_from_All (λ (h : Hold). list_any (λ (x : Record). is_live x && has_number h.number x) a.records ≡ true) a.holds is.held) held)

-- ---- on which of them the archive does it

shown : (a : Archive) (r : Record) (name : List ℕ) → shows_hold (hold_names a r.number) (named name) ≡ is_held_by a name r.number
shown a r name = held_shown a r (Some (named name))

pub done_is : (change : Change) (name : List ℕ) (a : Archive) → IsArchive a → (r : Record) → record_at a r.number ≡ Some r
    → does (hold_command change name) a r.number ≡ is_changed change name (entry_of a r)
done_is Place name a is r at =
    places_is a name r.number (record_at a r.number) ∙ ap (λ o. places o (is_held_by a name r.number)) at
    ∙ ap (λ h. not r.destroyed && not h) (sym (shown a r name))
done_is End name a is r at =
    ends_is a name r.number (record_at a r.number) ∙ ap (λ o. ends o (is_held_by a name r.number)) at
    ∙ go (is_held_by a name r.number) r.destroyed refl refl ∙ ap (λ h. not r.destroyed && h) (sym (shown a r name))
  where
    go : (h d : Bool) → is_held_by a name r.number ≡ h → r.destroyed ≡ d → h ≡ (not d && h)
    go true true e f = absurd (let off = sym f ∙ held_live a is name r at e in cc)
    go true false e f = refl
    go false true e f = refl
    go false false e f = refl

kept_once : (D : ℕ → Bool) (e : RecordEntry) (t c : Bool) (F G : List RecordEntry) → D e.number ≡ c → filter D (numbers_of F) ≡ numbers_of G
    → filter D (numbers_of (cond (t || c) (e ∷ F) F)) ≡ numbers_of (cond c (e ∷ G) G)
kept_once D e true true F G is more = ap₂ (λ b l. cond b (e.number ∷ l) l) is more
kept_once D e true false F G is more = ap₂ (λ b l. cond b (e.number ∷ l) l) is more
kept_once D e false true F G is more = ap₂ (λ b l. cond b (e.number ∷ l) l) is more
kept_once D e false false F G is more = more

pub changed_are : (change : Change) (name : List ℕ) (typed : List TypedNumbers) (a : Archive) → IsArchive a → (rs : List Record)
    → AllByRecursion (λ r. record_at a r.number ≡ Some r) rs
    → filter (does (hold_command change name) a) (meant_numbers change name typed (map (entry_of a) rs))
    ≡ changed_numbers change name (map (entry_of a) rs)
changed_are change name typed a is [] each = refl
changed_are change name typed a is (r ∷ rs) each =
    kept_once (does (hold_command change name) a) (entry_of a r) (list_any (is_one r.number) typed) (is_changed change name (entry_of a r))
    (filter (is_meant change name typed) (map (entry_of a) rs)) (filter (is_changed change name) (map (entry_of a) rs))
    (done_is change name a is r each.0) (changed_are change name typed a is rs each.1)

-- ---- records that have a hold

held_of : (l h : Bool) → ((true && ((l && true) && h) && true) && true) ≡ true → h ≡ true
held_of true true e = refl
held_of true false e = absurd cc
held_of false h e = absurd cc

all_meet : (p : Record → Bool) (rs : List Record) → AllByRecursion (λ r. p r ≡ true) (filter p rs)
all_meet p [] = tt
all_meet p (r ∷ rs) = go (p r) refl (all_meet p rs)
  where
    go : (b : Bool) → p r ≡ b → AllByRecursion (λ x. p x ≡ true) (filter p rs)
        → AllByRecursion (λ x. p x ≡ true) (cond b (r ∷ filter p rs) (filter p rs))
    go true e more = (e, more)
    go false e more = more

both_all : {X : Type 0} (P Q R : X → Type 0) → ((x : X) → P x → Q x → R x) → (xs : List X)
    → AllByRecursion P xs → AllByRecursion Q xs → AllByRecursion R xs
both_all P Q R to [] h k = tt
both_all P Q R to (x ∷ xs) h k = (to x h.0 k.0, both_all P Q R to xs h.1 k.1)

-- the end of a hold is done on each record that has it
pub held_are : (name : List ℕ) (a : Archive) → IsArchive a
    → filter (does (hold_command End name) a) (numbers_of (held_by name a)) ≡ numbers_of (held_by name a)
held_are name a is =
    let met = filter (meets_asked None (chosen_by name) a) a.records in
    filter_all (does (hold_command End name) a) (numbers_of (held_by name a))
    (all_mapped (λ n. does (hold_command End name) a n ≡ true) (λ (e : RecordEntry). e.number) (map (entry_of a) met)
    (all_mapped (λ (e : RecordEntry). does (hold_command End name) a e.number ≡ true) (entry_of a) met
    (both_all (λ r. record_at a r.number ≡ Some r) (λ r. meets_asked None (chosen_by name) a r ≡ true)
    (λ r. does (hold_command End name) a r.number ≡ true)
    (λ r at meets. ends_is a name r.number (record_at a r.number) ∙ ap (λ o. ends o (is_held_by a name r.number)) at
    ∙ held_of (is_live r) (is_held_by a name r.number) meets)
    met (each_found a is (meets_asked None (chosen_by name) a)) (all_meet (meets_asked None (chosen_by name) a) a.records))))

-- where a hold ends on a record, a live one has it
pub some_held : (name : List ℕ) (a : Archive) (q : Record → Bool) (rs : List Record)
    → is_any_of (changed_numbers End name (map (entry_of a) (filter q rs))) ≡ true
    → is_any_of (map (entry_of a) (filter (meets_asked None (chosen_by name) a) rs)) ≡ true
some_held name a q [] some = some
some_held name a q (r ∷ rs) some =
    go (q r) (is_live r) (is_held_by a name r.number) refl (shown a r name) some (λ k. some_held name a q rs k)
  where
    rest : List RecordEntry
    rest = map (entry_of a) (filter q rs)

    without : is_changed End name (entry_of a r) ≡ false
        → is_any_of (changed_numbers End name (entry_of a r ∷ rest)) ≡ true → is_any_of (changed_numbers End name rest) ≡ true
    without off k =
        let kept = filter (is_changed End name) rest in subst (λ c. is_any_of (numbers_of (cond c (entry_of a r ∷ kept) kept)) ≡ true) off k

    go : (b l h : Bool) → is_live r ≡ l → shows_hold (hold_names a r.number) (named name) ≡ h
        → is_any_of (changed_numbers End name (map (entry_of a) (cond b (r ∷ filter q rs) (filter q rs)))) ≡ true
        → (is_any_of (changed_numbers End name (map (entry_of a) (filter q rs))) ≡ true
        → is_any_of (map (entry_of a) (filter (meets_asked None (chosen_by name) a) rs)) ≡ true)
        → is_any_of (map (entry_of a) (cond ((true && ((l && true) && h) && true) && true)
        (r ∷ filter (meets_asked None (chosen_by name) a) rs) (filter (meets_asked None (chosen_by name) a) rs))) ≡ true
    go b true true e f k more = refl
    go false false h e f k more = more k
    go false true false e f k more = more k
    go true false h e f k more = more (without (ap₂ (λ x y. x && y) e f) k)
    go true true false e f k more = more (without (ap₂ (λ x y. x && y) e f) k)

-- it was done on one exactly where there is one on which it is done
pub any_done : (p : ℕ → Bool) (ns : List ℕ) → list_any (λ b. b) (map p ns) ≡ is_any_of (filter p ns)
any_done p [] = refl
any_done p (n ∷ ns) = go (p n) (any_done p ns)
  where
    go : (b : Bool) → list_any (λ c. c) (map p ns) ≡ is_any_of (filter p ns)
        → (b || list_any (λ c. c) (map p ns)) ≡ is_any_of (cond b (n ∷ filter p ns) (filter p ns))
    go true more = refl
    go false more = more
