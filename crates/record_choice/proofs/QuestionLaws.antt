-- Pages, joined, are what is chosen, with a question on messages or with none.
use Rattle.std.proofs.Common.{◌≡◌, ◌==◌, ◌<◌, ◌≤◌, ℕ, zero, suc, Bool, true, false, not, ◌&&◌, cond, List, [], ◌∷◌, ◌++◌, map, filter, take, find}
use Rattle.std.proofs.Common.{Option, Some, None, Ok, Err, refl, sym, ap, ap₂, ◌∙◌, arith}
use Rattle.std.specs.List.{AllByRecursion, flat_map}
use Rattle.std.proofs.lemmas.Bool.Decides.{nat_tests}
use Rattle.std.proofs.lemmas.List.{map-append}
use Rattle.std.proofs.lemmas.List.Elements.{recursion_from_All}
use Rattle.record_archive.specs.Lists.{IsAscending}
use Rattle.record_archive.specs.Archive.{Archive, Record, IsArchive, IsRecord, has_number, record_at, body_of, message_one}
use Rattle.record_archive.specs.declared.fault.ArchiveRefusal.TheVariants as refusal
use Rattle.record_choice.specs.Choices.{Choice, Question, where_asked, is_yes, message_of, meets_asked}
use Rattle.record_choice.specs.Entries.{RecordEntry, entry_of, records_from, entries_from}
use Rattle.record_choice.specs.Views.{shows}
use Rattle.record_choice.specs.Walks.{chosen_after, last_of, above, is_told, shows_answer, IsPageOf, IsWalk, WalkJoins}
use Rattle.record_choice.proofs.EntryLaws.{meets_shown}
use Rattle.record_choice.proofs.PageLaws.{Below, is_from, all_weaker, all_kept, filter_all, filter_mapped, entries_taken, page_filtered, yes}

-- ---- lists

pub kept_all : (es : List RecordEntry) → es ≡ filter (λ e. true) es
kept_all [] = refl
kept_all (e ∷ es) = ap (λ l. e ∷ l) (kept_all es)

filter_same_on : {X : Type 0} (p q : X → Bool) (xs : List X) → AllByRecursion (λ x. p x ≡ q x) xs → filter p xs ≡ filter q xs
filter_same_on p q [] h = refl
filter_same_on p q (x ∷ xs) h = ap₂ (λ b l. cond b (x ∷ l) l) h.0 (filter_same_on p q xs h.1)

both_one : {X : Type 0} (b c : Bool) (p : X → Bool) (x : X) (l m : List X) → p x ≡ c → filter p l ≡ m
    → filter p (cond b (x ∷ l) l) ≡ cond (b && c) (x ∷ m) m
both_one true true p x l m e f = ap₂ (λ d k. cond d (x ∷ k) k) e f
both_one true false p x l m e f = ap₂ (λ d k. cond d (x ∷ k) k) e f
both_one false c p x l m e f = f

filter_both : {X : Type 0} (p q : X → Bool) (xs : List X) → filter p (filter q xs) ≡ filter (λ x. q x && p x) xs
filter_both p q [] = refl
filter_both p q (x ∷ xs) = both_one (q x) (p x) p x (filter q xs) (filter (λ y. q y && p y) xs) refl (filter_both p q xs)

all_taken : {X : Type 0} (P : X → Type 0) (n : ℕ) (xs : List X) → AllByRecursion P xs → AllByRecursion P (take n xs)
all_taken P zero xs h = tt
all_taken P (suc n) [] h = tt
all_taken P (suc n) (x ∷ xs) h = (h.0, all_taken P n xs h.1)

-- ---- each record is the one that its number finds

same_number : (n : ℕ) → (n == n) ≡ true
same_number n = grind arith

other_number : (m n : ℕ) → m < n → (m == n) ≡ false
other_number m n h = grind (arith, nat_tests, h)

all_found : (rs : List Record) → IsAscending Below rs → AllByRecursion (λ r. find (has_number r.number) rs ≡ Some r) rs
all_found [] up = tt
all_found (r ∷ rs) up = (
  ap (λ b. cond b (Some r) (find (has_number r.number) rs)) (same_number r.number),
  later rs up.0 (all_found rs up.1),
)
  where
    later : (xs : List Record) → AllByRecursion (Below r) xs → AllByRecursion (λ x. find (has_number x.number) rs ≡ Some x) xs
        → AllByRecursion (λ x. find (has_number x.number) (r ∷ rs) ≡ Some x) xs
    later [] low h = tt
    later (x ∷ xs) low h = (
      ap (λ b. cond b (Some r) (find (has_number x.number) rs)) (other_number r.number x.number low.0) ∙ h.0,
      later xs low.1 h.1,
    )

abbrev IsFound : Archive → Record → Type 0
IsFound a r = record_at a r.number ≡ Some r

-- ---- the answer for an entry's message is that for its record's

told_one : (a : Archive) (asks : List ℕ → Bool) (r : Record) (b : Bool)
    → (not b && is_told (cond b (Err refusal.Destroyed) (Ok (body_of a.messages r.message))) asks)
    ≡ is_yes asks (cond b None (body_of a.messages r.message))
told_one a asks r true = refl
told_one a asks r false = refl

told_is : (a : Archive) (asks : List ℕ → Bool) (r : Record) → IsFound a r → shows_answer a asks (entry_of a r) ≡ is_yes asks (message_of a r)
told_is a asks r found = ap (λ o. not r.destroyed && is_told (message_one a o) asks) found ∙ told_one a asks r r.destroyed

asked_is : (a : Archive) (q : Question) (r : Record) → IsFound a r
    → where_asked (λ asks. shows_answer a asks (entry_of a r)) q ≡ where_asked (λ asks. is_yes asks (message_of a r)) q
asked_is a None r found = refl
asked_is a (Some asks) r found = told_is a asks r found

abbrev answers : Archive → Question → RecordEntry → Bool
answers a q e = where_asked (λ asks. shows_answer a asks e) q

-- entries that show a choice and for whose messages the answer is yes are those of the records that meet both
asked_shown : (q : Question) (c : Choice) (a : Archive) (rs : List Record) → AllByRecursion (IsFound a) rs
    → filter (answers a q) (filter (shows c) (map (entry_of a) rs)) ≡ map (entry_of a) (filter (meets_asked q c a) rs)
asked_shown q c a rs found =
    filter_both (answers a q) (shows c) (map (entry_of a) rs)
    ∙ filter_mapped (λ e. shows c e && answers a q e) (entry_of a) rs
    ∙ ap (map (entry_of a)) (filter_same_on (λ r. shows c (entry_of a r) && answers a q (entry_of a r)) (meets_asked q c a) rs
    (all_weaker (IsFound a) (λ r. (shows c (entry_of a r) && answers a q (entry_of a r)) ≡ meets_asked q c a r)
    (λ r there. ap₂ ◌&&◌ (meets_shown c (entry_of a r) a r refl) (asked_is a q r there)) rs found))

pub page_is : (q : Question) (c : Choice) (a : Archive) → IsArchive a → (from most : ℕ) → 1 ≤ most
    → (es met page : List RecordEntry) (last : Option ℕ) → es ≡ take most (entries_from a from) → met ≡ filter (shows c) es
    → page ≡ filter (λ e. where_asked (λ asks. shows_answer a asks e) q) met → last ≡ last_of None es
    → IsPageOf q c a (Some from) page (above last)
page_is q c a is from most some es met page last are meet kept ends =
    let f = records_from a from in
    let shown : es ≡ map (entry_of a) (take most f) = are ∙ entries_taken a from most in
    let there = all_taken (IsFound a) most f (all_kept (IsFound a) (is_from from) a.records (all_found a.records is.in_order)) in
    ap₂ (λ p o. p ++ map (entry_of a) (chosen_after q c a (above o)))
    (kept ∙ ap (filter (answers a q)) (meet ∙ ap (filter (shows c)) shown) ∙ asked_shown q c a (take most f) there) (ends ∙ ap (last_of None) shown)
    ∙ sym (map-append (entry_of a) (filter (meets_asked q c a) (take most f))
    (chosen_after q c a (above (last_of None (map (entry_of a) (take most f))))))
    ∙ ap (map (entry_of a)) (page_filtered (meets_asked q c a) a is from most some)

-- ---- whole walks

joined : (q : Question) (c : Choice) (a : Archive) (from : Option ℕ) (pages : List (List RecordEntry)) → IsWalk q c a from pages
    → flat_map (λ page. page) pages ≡ map (entry_of a) (chosen_after q c a from)
joined q c a None [] walk = refl
joined q c a (Some n) [] walk = absurd walk
joined q c a None (page ∷ pages) walk = absurd walk
joined q c a (Some n) (page ∷ pages) walk = ap (λ l. page ++ l) (joined q c a walk.0 pages walk.2) ∙ walk.1

-- each number is 1 at least
from_one : (a : Archive) → IsArchive a → records_from a 1 ≡ a.records
from_one a is =
    filter_all (is_from 1) a.records (all_weaker (IsRecord a) (λ r. is_from 1 r ≡ true) (λ r one. yes 1 r.number one.number.0) a.records
    (recursion_from_All (IsRecord a) a.records is.records))

pub walk_joins : (q : Question) (c : Choice) (a : Archive) (pages : List (List RecordEntry)) → WalkJoins q c a pages
walk_joins q c a pages is walk =
    joined q c a (Some 1) pages walk ∙ ap (λ rs. map (entry_of a) (filter (meets_asked q c a) rs)) (from_one a is)
