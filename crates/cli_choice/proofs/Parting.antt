-- A page of chosen records, parted by what their messages answer.
use Rattle.std.proofs.Common.{◌≡◌, ◌==◌, ◌<◌, ℕ, Bool, true, false, not, ◌&&◌, cond, List, [], ◌∷◌, ◌++◌, map, filter, find}
use Rattle.std.proofs.Common.{Option, Some, None, Ok, Err, refl, sym, ap, ap₂, ◌∙◌, arith}
use Rattle.std.specs.Prelude.{is_none}
use Rattle.std.specs.List.{AllByRecursion}
use Rattle.std.proofs.lemmas.Bool.Decides.{nat_tests}
use Rattle.std.proofs.lemmas.List.Elements.{filter-append}
use Rattle.record_archive.specs.Lists.{IsAscending}
use Rattle.record_archive.specs.Archive.{Archive, Record, IsArchive, has_number, record_at, body_of, message_one}
use Rattle.record_archive.specs.declared.fault.ArchiveRefusal.TheVariants as refusal
use Rattle.record_choice.specs.Choices.{Choice, Question, where_asked, is_yes, meets, message_of, meets_asked}
use Rattle.record_choice.specs.Entries.{RecordEntry, entry_of}
use Rattle.record_choice.specs.Walks.{chosen_after, records_after, is_told, shows_answer, IsPageOf}
use Rattle.record_question.specs.declared.question.TestQuestion.{TestQuestion}
use Rattle.record_question.specs.Questions.{is_yes as is_test_yes}
use Rattle.mail_display.specs.Question.{Asked}
use Rattle.cli_choice.specs.declared.questions.Questions.{Questions}
use Rattle.cli_choice.specs.Questions.{asks_nothing, is_found, is_missed, misses_fields, question_of}
use Rattle.record_choice.proofs.PageLaws.{Below, is_from, all_weaker, all_kept, filter_mapped}

-- ---- lists

filter_same_on : {X : Type 0} (p q : X → Bool) (xs : List X) → AllByRecursion (λ x. p x ≡ q x) xs → filter p xs ≡ filter q xs
filter_same_on p q [] h = refl
filter_same_on p q (x ∷ xs) h = ap₂ (λ b l. cond b (x ∷ l) l) h.0 (filter_same_on p q xs h.1)

both_one : {X : Type 0} (b c : Bool) (p : X → Bool) (x : X) (l m : List X) → p x ≡ c → filter p l ≡ m
    → filter p (cond b (x ∷ l) l) ≡ cond (b && c) (x ∷ m) m
both_one true true p x l m e f = ap₂ (λ d k. cond d (x ∷ k) k) e f
both_one true false p x l m e f = ap₂ (λ d k. cond d (x ∷ k) k) e f
both_one false c p x l m e f = f

filter_both : {X : Type 0} (p q : X → Bool) (xs : List X) → filter p (filter q xs) ≡ filter (λ x. q x && p x) xs
filter_both p q [] = refl
filter_both p q (x ∷ xs) = both_one (q x) (p x) p x (filter q xs) (filter (λ y. q y && p y) xs) refl (filter_both p q xs)

-- ---- each record is the one that its number finds

abbrev pub IsFound : Archive → Record → Type 0
IsFound a r = record_at a r.number ≡ Some r

same_number : (n : ℕ) → (n == n) ≡ true
same_number n = grind arith

other_number : (m n : ℕ) → m < n → (m == n) ≡ false
other_number m n h = grind (arith, nat_tests, h)

pub all_found : (rs : List Record) → IsAscending Below rs → AllByRecursion (λ r. find (has_number r.number) rs ≡ Some r) rs
all_found [] up = tt
all_found (r ∷ rs) up = (
  ap (λ b. cond b (Some r) (find (has_number r.number) rs)) (same_number r.number),
  later rs up.0 (all_found rs up.1),
)
  where
    later : (xs : List Record) → AllByRecursion (Below r) xs → AllByRecursion (λ x. find (has_number x.number) rs ≡ Some x) xs
        → AllByRecursion (λ x. find (has_number x.number) (r ∷ rs) ≡ Some x) xs
    later [] low h = tt
    later (x ∷ xs) low h = (
      ap (λ b. cond b (Some r) (find (has_number x.number) rs)) (other_number r.number x.number low.0) ∙ h.0,
      later xs low.1 h.1,
    )

pub after_found : (a : Archive) → IsArchive a → (next : Option ℕ) → AllByRecursion (IsFound a) (records_after a next)
after_found a is None = tt
after_found a is (Some n) = all_kept (IsFound a) (is_from n) a.records (all_found a.records is.in_order)

-- ---- the answer for an entry's message is that for its record's

told_one : (a : Archive) (asks : List ℕ → Bool) (r : Record) (b : Bool)
    → (not b && is_told (cond b (Err refusal.Destroyed) (Ok (body_of a.messages r.message))) asks)
    ≡ is_yes asks (cond b None (body_of a.messages r.message))
told_one a asks r true = refl
told_one a asks r false = refl

told_is : (a : Archive) (asks : List ℕ → Bool) (r : Record) → IsFound a r → shows_answer a asks (entry_of a r) ≡ is_yes asks (message_of a r)
told_is a asks r found = ap (λ o. not r.destroyed && is_told (message_one a o) asks) found ∙ told_one a asks r r.destroyed

with_true : (b c : Bool) → ((b && true) && c) ≡ (b && c)
with_true true c = refl
with_true false c = refl

-- ---- pages

-- the answered ones of what is chosen without a question
answered : (asks : List ℕ → Bool) (c : Choice) (a : Archive) → IsArchive a → (next : Option ℕ)
    → filter (shows_answer a asks) (map (entry_of a) (chosen_after None c a next)) ≡ map (entry_of a) (chosen_after (Some asks) c a next)
answered asks c a is next =
    let rs = records_after a next in
    filter_mapped (shows_answer a asks) (entry_of a) (chosen_after None c a next)
    ∙ ap (map (entry_of a)) (filter_both (λ r. shows_answer a asks (entry_of a r)) (meets_asked None c a) rs
    ∙ filter_same_on (λ r. meets_asked None c a r && shows_answer a asks (entry_of a r)) (meets_asked (Some asks) c a) rs
    (all_weaker (IsFound a) (λ r. (meets_asked None c a r && shows_answer a asks (entry_of a r)) ≡ meets_asked (Some asks) c a r)
    (λ r there. with_true (meets c a r) (shows_answer a asks (entry_of a r)) ∙ ap (λ b. meets c a r && b) (told_is a asks r there))
    rs (after_found a is next)))

-- A PART OF A PAGE of what is chosen without a question is a page of what is chosen with it
pub part_is : (asks : List ℕ → Bool) (c : Choice) (a : Archive) → IsArchive a → (from next : Option ℕ) (page part : List RecordEntry)
    → IsPageOf None c a from page next → part ≡ filter (shows_answer a asks) page → IsPageOf (Some asks) c a from part next
part_is asks c a is from next page part whole kept =
    ap₂ ◌++◌ kept (sym (answered asks c a is next))
    ∙ sym (filter-append (shows_answer a asks) page (map (entry_of a) (chosen_after None c a next)))
    ∙ ap (filter (shows_answer a asks)) whole ∙ answered asks c a is from

-- ---- what no message answers

none_yes : (asks : List ℕ → Bool) → ((message : List ℕ) → asks message ≡ false) → (o : Option (List ℕ)) → is_yes asks o ≡ false
none_yes asks never None = refl
none_yes asks never (Some message) = never message

no_and : (b c : Bool) → c ≡ false → (b && c) ≡ false
no_and true c e = e
no_and false c e = refl

none_chosen : (asks : List ℕ → Bool) → ((message : List ℕ) → asks message ≡ false) → (c : Choice) (a : Archive) (rs : List Record)
    → filter (meets_asked (Some asks) c a) rs ≡ []
none_chosen asks never c a [] = refl
none_chosen asks never c a (r ∷ rs) =
    ap₂ (λ b l. cond b (r ∷ l) l) (no_and (meets c a r) (is_yes asks (message_of a r)) (none_yes asks never (message_of a r)))
    (none_chosen asks never c a rs)

-- no record is chosen by a question to which the answer is never yes
none_is : (asks : List ℕ → Bool) → ((message : List ℕ) → asks message ≡ false) → (c : Choice) (a : Archive) (from next : Option ℕ)
    → IsPageOf (Some asks) c a from [] next
none_is asks never c a from next =
    ap (map (entry_of a)) (none_chosen asks never c a (records_after a next) ∙ sym (none_chosen asks never c a (records_after a from)))

-- ---- where nothing is asked

nothing_missed : (t : Option TestQuestion) (f : Option Asked) → (is_none t && is_none f) ≡ true → (message : List ℕ)
    → (where_asked (λ x. is_test_yes x message) t && misses_fields f message) ≡ false
nothing_missed None None e message = refl
nothing_missed None (Some f) e message = absurd cc
nothing_missed (Some t) f e message = absurd cc

-- where nothing is asked, nothing is missed
pub none_missed : (q : Questions) → asks_nothing q ≡ true → (c : Choice) (a : Archive) (from next : Option ℕ)
    → IsPageOf (Some (is_missed q)) c a from [] next
none_missed q e c a from next = none_is (is_missed q) (nothing_missed q.test q.fields e) c a from next

-- where something is asked, this is the question
pub asked_is : (q : Questions) → asks_nothing q ≡ false → Some (is_found q) ≡ question_of q
asked_is q e = sym (ap (λ b. cond {A = Question} b None (Some (is_found q))) e)
