-- What is told beside the records of a page is what the headers of their messages say.
use Rattle.std.proofs.Common.{◌≡◌, ◌<◌, ℕ, zero, suc, Bool, true, false, ◌&&◌, cond, List, [], ◌∷◌, ◌++◌, map, filter, length}
use Rattle.std.proofs.Common.{Option, Some, None, Ok, Err, refl, sym, ap, ◌∙◌, subst, arith}
use Rattle.std.specs.Borrow.{Bor}
use Rattle.std.specs.Prelude.{IfSome}
use Rattle.std.specs.List.{AllByRecursion, slice_index_or}
use Rattle.std.specs.Slice.{IsItemAt}
use Rattle.record_archive.specs.Archive.{Archive, Record, IsArchive, message, message_one, body_of}
use Rattle.record_archive.specs.declared.fault.ArchiveRefusal.TheVariants as refusal
use Rattle.record_choice.specs.Choices.{Choice, Question, is_yes, meets, meets_asked, message_of}
use Rattle.record_choice.specs.Entries.{RecordEntry, entry_of, entry_view}
use Rattle.record_choice.specs.Walks.{IsPageOf, chosen_after, records_after}
use Rattle.record_choice.specs.declared.entry.RecordEntry as own
use Rattle.cli_texts.specs.declared.headers.Headers.{Headers}
use Rattle.cli_choice.specs.Headers.{Texts, texts_in, texts_found, texts_of, texts_told, texts_view}
use Rattle.cli_choice.specs.Questions.{asks_nothing, is_found, question_of}
use Rattle.cli_choice.specs.declared.questions.Questions.{Questions}
use Rattle.cli_choice.specs.declared.search.FoundPage.{FoundPage}
use Rattle.cli_choice.specs.declared.search.Beside.{Beside}
use Rattle.cli_choice.specs.declared.search.Beside.TheVariants as beside
use Rattle.cli_choice.proofs.Parting.{IsFound, after_found}
use Rattle.cli_console.specs.Headers.{AreBeside, AreTextsOf, IsToldBeside}

-- ---- a record whose message answers a question has one

abbrev HasMessage : Archive → ℕ → Type 0
HasMessage a n = (octets : List ℕ) × (message a n ≡ Ok (Some octets))

has_message : (asks : List ℕ → Bool) (a : Archive) (r : Record) → IsFound a r → is_yes asks (message_of a r) ≡ true → HasMessage a r.number
has_message asks a r found answered =
    let stored = go r.destroyed (body_of a.messages r.message) answered in (stored.0, ap (message_one a) found ∙ stored.1)
  where
    go : (gone : Bool) (body : Option (List ℕ)) → is_yes asks (cond gone None body) ≡ true
        → (octets : List ℕ) × (cond gone (Err refusal.Destroyed) (Ok body) ≡ Ok (Some octets))
    go true body answered = absurd cc
    go false None answered = absurd cc
    go false (Some octets) answered = (octets, refl)

right_one : (b c : Bool) → (b && c) ≡ true → c ≡ true
right_one true c e = e
right_one false c e = absurd cc

chosen_have : (asks : List ℕ → Bool) (c : Choice) (a : Archive) (rs : List Record) → AllByRecursion (IsFound a) rs
    → AllByRecursion (λ (e : RecordEntry). HasMessage a e.number) (map (entry_of a) (filter (meets_asked (Some asks) c a) rs))
chosen_have asks c a [] found = tt
chosen_have asks c a (r ∷ rs) found = go (meets_asked (Some asks) c a r) refl (chosen_have asks c a rs found.1)
  where
    go : (b : Bool) → meets_asked (Some asks) c a r ≡ b
        → AllByRecursion (λ (e : RecordEntry). HasMessage a e.number) (map (entry_of a) (filter (meets_asked (Some asks) c a) rs))
        → AllByRecursion (λ (e : RecordEntry). HasMessage a e.number)
        (map (entry_of a) (cond b (r ∷ filter (meets_asked (Some asks) c a) rs) (filter (meets_asked (Some asks) c a) rs)))
    go true met more = (has_message asks a r found.0 (right_one (meets c a r) (is_yes asks (message_of a r)) met), more)
    go false met more = more

front_all : {X : Type 0} (P : X → Type 0) (xs ys : List X) → AllByRecursion P (xs ++ ys) → AllByRecursion P xs
front_all P [] ys h = tt
front_all P (x ∷ xs) ys h = (h.0, front_all P xs ys h.1)

page_has : (asks : List ℕ → Bool) (c : Choice) (a : Archive) → IsArchive a → (from next : Option ℕ) (page : List RecordEntry)
    → IsPageOf (Some asks) c a from page next → AllByRecursion (λ (e : RecordEntry). HasMessage a e.number) page
page_has asks c a is from next page of =
    front_all (λ (e : RecordEntry). HasMessage a e.number) page (map (entry_of a) (chosen_after (Some asks) c a next))
    (subst (AllByRecursion (λ (e : RecordEntry). HasMessage a e.number)) (sym of)
    (chosen_have asks c a (records_after a from) (after_found a is from)))

-- ---- what is told of them

one_beside : (a : Archive) (e : own.RecordEntry) (h : Headers) → HasMessage a e.number → texts_view h ≡ texts_in a (entry_view e)
    → AreTextsOf a e.number h
one_beside a e h has same =
    let texts : texts_view h ≡ texts_of has.0 = same ∙ ap texts_told has.1 in
    record {
      octets = has.0;
      of_it = has.1;
      sender = ap (λ (t : Texts). t.0) texts;
      subject = ap (λ (t : Texts). t.1) texts;
      date = ap (λ (t : Texts). t.2) texts;
    }

each_beside : (a : Archive) (es : List own.RecordEntry) (hs : List Headers)
    → AllByRecursion (λ (e : RecordEntry). HasMessage a e.number) (map entry_view es) → map texts_view hs ≡ map (texts_in a) (map entry_view es)
    → AreBeside a es hs
each_beside a es [] has same = tt
each_beside a [] (h ∷ hs) has same = absurd cc
each_beside a (e ∷ es) (h ∷ hs) has same = (one_beside a e h has.0 cc, each_beside a es hs has.1 cc)

none_beside : (a : Archive) (es : List own.RecordEntry) (hs : List Headers) → map texts_view hs ≡ [] → AreBeside a es hs
none_beside a es [] none = tt
none_beside a es (h ∷ hs) none = absurd cc

texts_beside : (q : Questions) (c : Choice) (a : Archive) → IsArchive a → (b : Beside) (from next : Option ℕ) (es : List own.RecordEntry)
    (hs : List Headers) → IsPageOf (question_of q) c a from (map entry_view es) next
    → map texts_view hs ≡ cond (asks_nothing q) [] (texts_found a b (map entry_view es)) → AreBeside a es hs
texts_beside q c a is beside.Nothing from next es hs of read = none_beside a es hs (read ∙ nothing (asks_nothing q))
  where
    nothing : (b : Bool) → cond {A = List Texts} b [] [] ≡ []
    nothing true = refl
    nothing false = refl
texts_beside q c a is beside.Headers from next es hs of read = go (asks_nothing q) of read
  where
    go : (b : Bool) → IsPageOf (cond {A = Question} b None (Some (is_found q))) c a from (map entry_view es) next
        → map texts_view hs ≡ cond b [] (map (texts_in a) (map entry_view es)) → AreBeside a es hs
    go true of read = none_beside a es hs read
    go false of read = each_beside a es hs (page_has (is_found q) c a is from next (map entry_view es) of) read

-- what a search reads beside the records of a page is told of them
pub page_beside : (q : Questions) (c : Choice) (a : Archive) → IsArchive a → (b : Beside) (from next : Option ℕ) (o : Option FoundPage)
    (p : FoundPage) → o ≡ Some p → IsPageOf (question_of q) c a from (map entry_view p.found.items) next
    → IfSome o (λ (x : FoundPage). map texts_view x.headers.items
    ≡ cond (asks_nothing q) [] (texts_found a b (map entry_view x.found.items))) → AreBeside a p.found.items p.headers.items
page_beside q c a is b from next o p some of read =
    texts_beside q c a is b from next p.found.items p.headers.items of
    (subst (λ (y : Option FoundPage). IfSome y (λ (x : FoundPage). map texts_view x.headers.items
    ≡ cond (asks_nothing q) [] (texts_found a b (map entry_view x.found.items)))) some read)

-- ---- one of them

beside_at : (a : Archive) (es : List own.RecordEntry) (hs : List Headers) → AreBeside a es hs → (i : ℕ) (e : own.RecordEntry) (h : Headers)
    → i < length hs → AreTextsOf a (slice_index_or es i e).number (slice_index_or hs i h)
beside_at a es [] beside i e h less = absurd (omega (arith, less))
beside_at a [] (k ∷ hs) beside i e h less = absurd beside
beside_at a (d ∷ es) (k ∷ hs) beside zero e h less = beside.0
beside_at a (d ∷ es) (k ∷ hs) beside (suc i) e h less = beside_at a es hs beside.1 i e h (omega (arith, less))

-- what is told beside the record at a place
pub told_at : (a : Archive) (es : List own.RecordEntry) (hs : List Headers) → AreBeside a es hs → (i : ℕ) (e : own.RecordEntry)
    → e ≡ slice_index_or es i e → (o : Option (Bor Headers)) → IsItemAt hs i o → IsToldBeside a e o
told_at a es hs beside i e is None item = tt
told_at a es hs beside i e is (Some h) item =
    subst (λ (d : own.RecordEntry). AreTextsOf a d.number h.now) (sym is)
    (subst (AreTextsOf a (slice_index_or es i e).number) (sym item.1) (beside_at a es hs beside i e h.now item.3.0))
