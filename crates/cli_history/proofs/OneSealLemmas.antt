-- The seal of one message, a row at a time and a page at a time.
use Rattle.std.proofs.Common.{◌≡◌, ℕ, ◌+◌, ◌<◌, ◌≤◌, ◌==◌, ◌^◌, ◌||◌, ◌++◌, ◌∷◌, ◌∙◌, [], Bool, true, false, List, Option, Some, None, option_map}
use Rattle.std.proofs.Common.{codes, cond, map, take, get_or, length, refl, ap, sym, subst, append_assoc, inl, inr, arith}
use Rattle.std.specs.Prelude.{nat_eq, string_bytes}
use Rattle.std.proofs.lemmas.Bool.{cases_Bool}
use Rattle.std.proofs.lemmas.Bool.Decides.{nat_tests}
use Rattle.std.specs.Fmt.{decimal}
use Rattle.std.specs.List.{starts_with}
use Rattle.record_tables.specs.Events.{Event as Row}
use Rattle.record_reads.specs.Events.{event_of}
use Rattle.record_reads.specs.declared.events.EventRow.{EventRow}
use Rattle.record_history.specs.Events.{Captured, Deed, Event, Filing, FoundMessage, Seal}
use Rattle.record_history.specs.Lines.{captured_text, day_text, deed_text, filing_text, line_of, notes_text, paths_text, reason_text, seal_text}
use Rattle.record_history.specs.OneReading.{LinesHaveOneReading}
use Rattle.record_history.specs.Readable.{IsReadable}
use Rattle.cli_history.specs.OneSeal.{AreBeginnings, IsSealIn, TakesSeal, TellsNoSeal, begins_for, behind_blank}
use Rattle.cli_history.specs.Seals.{known, later, seal_at, sealed_by}
use Rattle.cli_history.specs.Tellings.{TakesRow, TellEach, TellsRow, seal_told, sealed_among}
use Rattle.cli_history.specs.declared.seals.Beginnings.{Beginnings}
use Rattle.cli_history.specs.declared.seals.Seals.{Seals}
use Rattle.cli_history.proofs.BlankLemmas.{begins_so, deed_behind}
use Rattle.cli_history.proofs.TellingLemmas.{sealed_more}
use Rattle.cli_history.proofs.WalkLemmas.{all_of_page, more_of_page, none_of_page}

-- ---- rows that are passed over

-- neither of two tests holds
neither : (a b : Bool) → (a || b) ≡ false → (a ≡ false) × (b ≡ false)
neither false false is = (refl, refl)
neither false true is = absurd cc
neither true b is = absurd cc

-- a text that begins so, where it is said that it does not
begins : (p q t : List ℕ) (X : Type 0) → q ≡ p ++ t → starts_with nat_eq q p ≡ false → X
begins p q t X is other = absurd (let e : true ≡ false = sym (begins_so p t) ∙ ap (λ s. starts_with nat_eq s p) (sym is) ∙ other in cc)

captured_front : (w n o x a b s f i p t : List ℕ)
    → (w ++ n ++ (o ++ x) ++ a ++ b ++ s ++ f ++ i ++ p) ++ t ≡ (w ++ n ++ o) ++ (x ++ (a ++ (b ++ (s ++ (f ++ (i ++ (p ++ t)))))))
captured_front w n o x a b s f i p t = simp append_assoc

same_number : (m n : ℕ) → (m == n) ≡ true → n ≡ m
same_number m n is = grind (arith, nat_tests)

-- the seal that a deed tells of the message of a number, where the numbers differ
other_message : (m first : ℕ) (seal : Seal) (number : ℕ) → ((m == first) ≡ true → seal_at first seal number m ≡ None)
    → seal_at first seal number m ≡ None
other_message m first seal number same = elim (cases_Bool (m == first)) [ inl is ↦ same is | inr other ↦ rw other refl ]

no_seal : (message number : ℕ) (captured found : List ℕ) (d : Deed) (t : List ℕ) → captured ≡ codes "captured " ++ decimal message ++ codes " "
    → found ≡ codes "found message " ++ decimal message ++ codes " " → starts_with nat_eq (deed_text d ++ t) captured ≡ false
    → starts_with nat_eq (deed_text d ++ t) found ≡ false → sealed_by number d message ≡ None
no_seal message number captured found (Captured first seal day filing paths) t is_captured is_found one other =
    other_message message first seal number (λ same.
    let rest =
    codes "on " ++ (day_text day ++ (codes " message " ++ (seal_text seal ++ (filing_text filing ++ (codes " in " ++ (paths_text paths ++ t)))))) in
    let front : captured_text first seal day filing paths ++ t ≡ (codes "captured " ++ decimal first ++ codes " ") ++ rest =
    captured_front (codes "captured ") (decimal first) (codes " ") (codes "on ") (day_text day) (codes " message ") (seal_text seal)
    (filing_text filing) (codes " in ") (paths_text paths) t in
    let own : (codes "captured " ++ decimal first ++ codes " ") ++ rest ≡ captured ++ rest =
    ap (λ n. (codes "captured " ++ decimal n ++ codes " ") ++ rest) (same_number message first same) ∙ ap (λ w. w ++ rest) (sym is_captured) in
    begins captured (captured_text first seal day filing paths ++ t) rest (seal_at first seal number message ≡ None) (front ∙ own) one)
no_seal message number captured found (FoundMessage n seal) t is_captured is_found one other =
    other_message message n seal number (λ same.
    let rest = seal_text seal ++ t in
    let word = codes "found message " ++ decimal n ++ codes " " in
    let own : word ++ rest ≡ found ++ rest =
    ap (λ k. (codes "found message " ++ decimal k ++ codes " ") ++ rest) (same_number message n same) ∙ ap (λ w. w ++ rest) (sym is_found) in
    begins found ((word ++ seal_text seal) ++ t) rest (seal_at n seal number message ≡ None) (append_assoc word (seal_text seal) t ∙ own) other)
no_seal message number captured found d t is_captured is_found one other = refl

-- WHAT IS PASSED OVER tells no seal of the message
pub passed_none : (message : ℕ) (b : Beginnings) (r : Row) → r.number < 2 ^ 64 → AreBeginnings message b → begins_for b r.line ≡ false
    → TellsNoSeal message r
passed_none message b r low are passed None tells = refl
passed_none message b r low are passed (Some e) tells =
    let t = notes_text e.notes ++ reason_text e.reason in
    let deed : behind_blank (behind_blank (behind_blank r.line)) ≡ deed_text e.deed ++ t =
    ap (λ s. behind_blank (behind_blank (behind_blank s))) tells.0 ∙ deed_behind r.number e low tells.1 in
    let both = neither (starts_with nat_eq (behind_blank (behind_blank (behind_blank r.line))) (string_bytes b.captured))
    (starts_with nat_eq (behind_blank (behind_blank (behind_blank r.line))) (string_bytes b.found)) passed in
    no_seal message r.number (string_bytes b.captured) (string_bytes b.found) e.deed t are.captured are.found
    (ap (λ s. starts_with nat_eq s (string_bytes b.captured)) (sym deed) ∙ both.0)
    (ap (λ s. starts_with nat_eq s (string_bytes b.found)) (sym deed) ∙ both.1)

-- the seal stays
pub seal_passed : (message : ℕ) (r : Row) (s : Seals) → TellsNoSeal message r → TakesSeal message r s s
seal_passed message r s none = λ told tells. ap (λ o. later o (known s message)) (sym (none told tells))

-- ---- rows that are taken

-- a row tells one event at most
one_event : LinesHaveOneReading → (r : Row) → r.number < 2 ^ 64 → (e f : Event) → TellsRow r (Some e) → TellsRow r (Some f) → e ≡ f
one_event law r low e f one other = (law r.number r.number e f low low one.1 other.1 (sym one.0 ∙ other.0)).1

tells_same : LinesHaveOneReading → (r : Row) → r.number < 2 ^ 64 → (o p : Option Event) → TellsRow r o → TellsRow r p → o ≡ p
tells_same law r low None None one other = refl
tells_same law r low (Some e) (Some f) one other = ap (λ (x : Event). Some x) (one_event law r low e f one other)
tells_same law r low None (Some f) one other = absurd (one f other.1 other.0)
tells_same law r low (Some e) None one other = absurd (other e one.1 one.0)

pub seal_taken : LinesHaveOneReading → (message : ℕ) (r : Row) (old new : Seals) → r.number < 2 ^ 64 → TakesRow r old new
    → TakesSeal message r old new
seal_taken law message r old new low takes = λ told tells.
    takes.seals message
    ∙ ap (λ (o : Option Event). later (seal_told r o message) (known old message)) (tells_same law r low takes.told told takes.tells tells)

-- a row that tells no event
pub seal_untold : (message : ℕ) (r : Row) (s : Seals) (o : Option Event) → TellsRow r o → None ≡ option_map (λ (e : Event). e.deed) o
    → TakesSeal message r s s
seal_untold message r s None none same = go
  where
    go : (told : Option Event) → TellsRow r told → known s message ≡ later (seal_told r told message) (known s message)
    go None tells = refl
    go (Some e) tells = absurd (none e tells.1 tells.0)
seal_untold message r s (Some e) tells same = absurd cc

-- ---- one row more

record IsSplit (rows : List Row) (r : Row) (all : List (Option Event)) : Type 0 where
  front : List (Option Event)
  last : Option Event
  all_is : all ≡ front ++ last ∷ []
  tell : TellEach rows front
  tells : TellsRow r last

split : (rows : List Row) (r : Row) (all : List (Option Event)) → TellEach (rows ++ r ∷ []) all → IsSplit rows r all
split [] r [] tell = absurd tell
split [] r (o ∷ []) tell = record { front = []; last = o; all_is = refl; tell = tt; tells = tell.0 }
split [] r (o ∷ p ∷ all) tell = absurd tell.1
split (q ∷ rows) r [] tell = absurd tell
split (q ∷ rows) r (o ∷ all) tell =
    let rest = split rows r all tell.1 in
    record {
      front = o ∷ rest.front;
      last = rest.last;
      all_is = ap (λ (x : List (Option Event)). o ∷ x) rest.all_is;
      tell = (tell.0, rest.tell);
      tells = rest.tells;
    }

seal_more : (message : ℕ) (r : Row) (old new : Seals) (rows : List Row) → IsSealIn message old rows → TakesSeal message r old new
    → IsSealIn message new (rows ++ r ∷ [])
seal_more message r old new rows so_far takes = λ all tell.
    let parts = split rows r all tell in
    takes parts.last parts.tells ∙ ap (later (seal_told r parts.last message)) (so_far parts.front parts.tell)
    ∙ sym (sealed_more rows parts.front r parts.last parts.tell message)
    ∙ ap (λ (x : List (Option Event)). sealed_among (rows ++ r ∷ []) x message) (sym parts.all_is)

pub no_seal_yet : (message : ℕ) (s : Seals) → known s message ≡ None → IsSealIn message s []
no_seal_yet message s none = λ told tell. none

-- ---- the rows of a page

pub seal_none : (message : ℕ) (s : Seals) (rows : List Row) (page : List EventRow) → IsSealIn message s rows
    → IsSealIn message s (rows ++ map event_of (take 0 page))
seal_none message s rows page so_far = none_of_page (IsSealIn message s) event_of rows page so_far

pub seal_page : (message : ℕ) (old new : Seals) (rows : List Row) (page : List EventRow) (i : ℕ) (d : EventRow) → i < length page
    → IsSealIn message old (rows ++ map event_of (take i page)) → TakesSeal message (event_of (get_or page i d)) old new
    → IsSealIn message new (rows ++ map event_of (take (i + 1) page))
seal_page message old new rows page i d low so_far takes =
    more_of_page (IsSealIn message new) event_of rows page i d low
    (seal_more message (event_of (get_or page i d)) old new (rows ++ map event_of (take i page)) so_far takes)

pub seal_whole : (message : ℕ) (s : Seals) (rows : List Row) (page : List EventRow) (i : ℕ) → length page ≤ i
    → IsSealIn message s (rows ++ map event_of (take i page)) → IsSealIn message s (rows ++ map event_of page)
seal_whole message s rows page i all so_far = all_of_page (IsSealIn message s) event_of rows page i all so_far
