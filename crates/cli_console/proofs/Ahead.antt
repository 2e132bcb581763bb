-- What is yet to be found: at the beginning of a search, from step to step, and at its end.
use Rattle.std.proofs.Common.{◌≡◌, ◌<◌, ◌≤◌, ◌^◌, ℕ, Bool, true, false, ◌&&◌, cond, List, [], ◌∷◌, ◌++◌, map, filter, nat_le}
use Rattle.std.proofs.Common.{Option, Some, None, refl, sym, ap, ap₂, subst, ◌∙◌, arith}
use Rattle.std.specs.Prelude.{IfSome, IsSome, Vec, ◌||◌, ◌+◌, option_map}
use Rattle.std.specs.declared.alloc.Global.{Global}
use Rattle.std.specs.List.{AllByRecursion, list_any}
use Rattle.std.proofs.lemmas.Bool.Decides.{nat_tests}
use Rattle.std.proofs.lemmas.List.{append_assoc, append-nil, map-append}
use Rattle.std.proofs.lemmas.List.Elements.{recursion_from_All}
use Rattle.record_archive.specs.Archive.{Archive, Record, IsArchive, IsRecord}
use Rattle.record_choice.specs.Choices.{Choice, Question, Span, where_asked, is_in, is_within, is_as, is_when, is_yes}
use Rattle.record_choice.specs.Choices.{message_of, meets_asked, chosen}
use Rattle.record_choice.specs.Entries.{RecordEntry, entry_of, entry_view}
use Rattle.record_choice.specs.Views.{choice_view}
use Rattle.record_choice.specs.Walks.{chosen_after, IsPageOf}
use Rattle.record_choice.specs.declared.choice.Choice as own_choice
use Rattle.record_choice.specs.declared.entry.RecordEntry as own
use Rattle.record_choice.proofs.PageLaws.{all_weaker, filter_all, is_from, yes}
use Rattle.choice_words.specs.declared.choice.Choice as words
use Rattle.choice_words.specs.declared.numbers.TypedNumbers.{TypedNumbers}
use Rattle.cli_choice.specs.Questions.{question_of}
use Rattle.cli_choice.specs.Typed.{is_among, span_typed, spans_typed, choice_typed}
use Rattle.cli_choice.specs.declared.search.FoundPage.{FoundPage}
use Rattle.cli_console.specs.declared.search.Search.{Search}
use Rattle.cli_console.specs.declared.walk.Walk.{Walk}
use Rattle.cli_console.specs.Turns.{IsFurther, IsTurn, IsSearchTurn, page_view}
use Rattle.cli_console.specs.Finds.{IsAsked, IsBounded, IsSameSearch, chosen_ahead, chosen_in, found_ahead}

-- ---- which records are met

abbrev pub asked_for : Choice → ℕ → Bool
asked_for c n = where_asked (list_any (is_in n)) c.numbers

-- a record whose number is not asked for is not met
unmet : (q : Question) (c : Choice) (a : Archive) (r : Record) → asked_for c r.number ≡ false → meets_asked q c a r ≡ false
unmet q c a r e =
    ap (λ b. ((b && where_asked (λ class. is_within class r.path) c.class) && is_as c a r && is_when c a r)
    && where_asked (λ asks. is_yes asks (message_of a r)) q) e

pub apart : (b : Bool) → b ≡ true → b ≡ false → ⊥
apart true t f = absurd cc
apart false t f = absurd cc

met_asked : (q : Question) (c : Choice) (a : Archive) (r : Record) → meets_asked q c a r ≡ true → IsAsked c r.number
met_asked q c a r met = go (asked_for c r.number) refl
  where
    go : (b : Bool) → asked_for c r.number ≡ b → asked_for c r.number ≡ true
    go true e = e
    go false e = absurd (apart (meets_asked q c a r) met (unmet q c a r e))

-- ---- the end

-- where no number is asked for that is above one, no record above it is met
none_above : (q : Question) (c : Choice) (a : Archive) (last n : ℕ) → last < n
    → ((m : ℕ) → 1 ≤ m → m < 2 ^ 32 → IsAsked c m → m ≤ last)
    → (rs : List Record) → AllByRecursion (IsRecord a) rs → filter (meets_asked q c a) (filter (is_from n) rs) ≡ []
none_above q c a last n less within [] each = refl
none_above q c a last n less within (r ∷ rs) each = go (is_from n r) refl (none_above q c a last n less within rs each.1)
  where
    above : is_from n r ≡ true → (b : Bool) → meets_asked q c a r ≡ b → b ≡ false
    above high false met = refl
    above high true met =
        let low = within r.number each.0.number.0 each.0.number.1 (met_asked q c a r met) in
        let up : n ≤ r.number = grind (arith, nat_tests, high) in absurd (omega (arith, low, up, less))

    go : (b : Bool) → is_from n r ≡ b → filter (meets_asked q c a) (filter (is_from n) rs) ≡ []
        → filter (meets_asked q c a) (cond b (r ∷ filter (is_from n) rs) (filter (is_from n) rs)) ≡ []
    go false high more = more
    go true high more =
        ap₂ (λ b l. cond b (r ∷ l) l) (above high (meets_asked q c a r) refl) more

-- nothing is ahead of a search that has passed its last number
pub none_ahead : (q : Question) (c : Choice) (a : Archive) → IsArchive a → (last : ℕ) (from : Option ℕ)
    → ((m : ℕ) → 1 ≤ m → m < 2 ^ 32 → IsAsked c m → m ≤ last) → IfSome from (λ n. last < n)
    → map (entry_of a) (chosen_after q c a from) ≡ []
none_ahead q c a is last None within over = refl
none_ahead q c a is last (Some n) within over =
    ap (map (entry_of a)) (none_above q c a last n over within a.records (recursion_from_All (IsRecord a) a.records is.records))

-- nor of one that has come to a number that no record has
pub none_so_high : (q : Question) (c : Choice) (a : Archive) → IsArchive a → (k : ℕ) → 2 ^ 32 ≤ k → (from : Option ℕ)
    → IfSome from (λ n. k ≤ n) → map (entry_of a) (chosen_after q c a from) ≡ []
none_so_high q c a is k big None over = refl
none_so_high q c a is k big (Some n) over =
    none_ahead q c a is 4294967295 (Some n) (λ m one small asked. omega (arith, small)) (omega (arith, big, over))

-- ---- the beginning

fresh_among : (q : Question) (c : Choice) (a : Archive) (start typed : ℕ)
    → ((m : ℕ) → 1 ≤ m → m < 2 ^ 32 → IsAsked c m → nat_le start m ≡ nat_le typed m)
    → (rs : List Record) → AllByRecursion (IsRecord a) rs
    → filter (meets_asked q c a) (filter (is_from start) rs) ≡ filter (λ r. nat_le typed r.number && meets_asked q c a r) rs
fresh_among q c a start typed same [] each = refl
fresh_among q c a start typed same (r ∷ rs) each =
    go (is_from start r) (nat_le typed r.number) (meets_asked q c a r) refl
    (λ met. same r.number each.0.number.0 each.0.number.1 (met_asked q c a r met))
    (fresh_among q c a start typed same rs each.1)
  where
    go : (b d m : Bool) → meets_asked q c a r ≡ m → (m ≡ true → b ≡ d)
        → filter (meets_asked q c a) (filter (is_from start) rs) ≡ filter (λ x. nat_le typed x.number && meets_asked q c a x) rs
        → filter (meets_asked q c a) (cond b (r ∷ filter (is_from start) rs) (filter (is_from start) rs))
        ≡ cond (d && m) (r ∷ filter (λ x. nat_le typed x.number && meets_asked q c a x) rs)
        (filter (λ x. nat_le typed x.number && meets_asked q c a x) rs)
    go true true m e f more = ap₂ (λ k l. cond k (r ∷ l) l) e more
    go true false true e f more = absurd (apart true refl (f refl))
    go true false false e f more = ap₂ (λ k l. cond k (r ∷ l) l) e more
    go false true true e f more = absurd (apart true refl (sym (f refl)))
    go false true false e f more = more
    go false false m e f more = more

-- what is ahead of a search at its beginning is what is met from the number on that is typed
pub all_ahead : (q : Question) (c : Choice) (a : Archive) → IsArchive a → (start typed : ℕ)
    → ((m : ℕ) → 1 ≤ m → m < 2 ^ 32 → IsAsked c m → nat_le start m ≡ nat_le typed m)
    → map (entry_of a) (chosen_after q c a (Some start))
    ≡ map (entry_of a) (filter (λ r. nat_le typed r.number && meets_asked q c a r) a.records)
all_ahead q c a is start typed same =
    ap (map (entry_of a)) (fresh_among q c a start typed same a.records (recursion_from_All (IsRecord a) a.records is.records))

-- ---- from step to step

pub is_bounded_still : (old new : Search) → IsSameSearch old new → IsBounded old → IsBounded new
is_bounded_still old new same bounded = λ n one small asked.
    subst (λ m. n ≤ m) (sym same.last) (bounded n one small (subst (λ c. IsAsked (choice_view c) n) same.choice asked))

pub page_ahead : (old new : Search) (a : Archive) (page : List RecordEntry) → IsSameSearch old new
    → IsPageOf (question_of old.questions.now) (choice_view old.choice) a old.from page new.from
    → page ++ found_ahead new a ≡ found_ahead old a
page_ahead old new a page same of =
    ap₂ (λ q c. page ++ map (entry_of a) (chosen_after (question_of q) (choice_view c) a new.from)) same.questions same.choice ∙ of

pub more_taken : (es fs : List own.RecordEntry) (all ahead next : List RecordEntry) → map entry_view es ++ ahead ≡ all
    → map entry_view fs ++ next ≡ ahead → map entry_view (es ++ fs) ++ next ≡ all
more_taken es fs all ahead next so_far page =
    ap (λ l. l ++ next) (map-append entry_view es fs) ∙ append_assoc (map entry_view es) (map entry_view fs) next
    ∙ ap (λ l. map entry_view es ++ l) page ∙ so_far

pub all_taken : (es : List own.RecordEntry) (all ahead : List RecordEntry) → map entry_view es ++ ahead ≡ all → ahead ≡ []
    → map entry_view es ≡ all
all_taken es all ahead so_far none =
    sym (append-nil (map entry_view es)) ∙ ap (λ l. map entry_view es ++ l) (sym none) ∙ so_far

pub same_still : (x y z : Search) → IsSameSearch x y → IsSameSearch y z → IsSameSearch x z
same_still x y z one other = record {
  typed = other.typed ∙ one.typed;
  questions = other.questions ∙ one.questions;
  choice = other.choice ∙ one.choice;
  last = other.last ∙ one.last;
}

-- a step that gave records, and one that gave none
pub turned : (s : Search) (a : Archive) (o : Option FoundPage) (p : FoundPage) (next : Option ℕ) → o ≡ Some p
    → IsSearchTurn (question_of s.questions.now) (choice_view s.choice) a s.last s.from (page_view (option_map (λ (x : FoundPage). x.found) o)) next
    → IsSome s.from × IsPageOf (question_of s.questions.now) (choice_view s.choice) a s.from (map entry_view p.found.items) next
    × IsFurther s.from next
turned s a o p next is turn =
    subst (λ x. IsSearchTurn (question_of s.questions.now) (choice_view s.choice) a s.last s.from
    (page_view (option_map (λ (y : FoundPage). y.found) x)) next) is turn

pub ended : (s : Search) (a : Archive) (o : Option FoundPage) (next : Option ℕ) → IsArchive a → IsBounded s → o ≡ None
    → IsSearchTurn (question_of s.questions.now) (choice_view s.choice) a s.last s.from (page_view (option_map (λ (x : FoundPage). x.found) o)) next
    → found_ahead s a ≡ []
ended s a o next is bounded none turn =
    none_ahead (question_of s.questions.now) (choice_view s.choice) a is s.last s.from bounded
    (subst (λ x. IsSearchTurn (question_of s.questions.now) (choice_view s.choice) a s.last s.from
    (page_view (option_map (λ (y : FoundPage). y.found) x)) next) none turn).0

pub none_further : (s : Search) (a : Archive) → IsArchive a → (k : ℕ) → 2 ^ 32 ≤ k → IfSome s.from (λ n. k ≤ n) → found_ahead s a ≡ []
none_further s a is k big over = none_so_high (question_of s.questions.now) (choice_view s.choice) a is k big s.from over

-- ---- walks

whole : (q : Question) (c : Choice) (a : Archive) → IsArchive a
    → map (entry_of a) (chosen_after q c a (Some 1)) ≡ map (entry_of a) (chosen q c a)
whole q c a is =
    ap (λ rs. map (entry_of a) (filter (meets_asked q c a) rs))
    (filter_all (is_from 1) a.records (all_weaker (IsRecord a) (λ r. is_from 1 r ≡ true) (λ r one. yes 1 r.number one.number.0) a.records
    (recursion_from_All (IsRecord a) a.records is.records)))

pub walk_begins : (w : Walk) (c : own_choice.Choice) (a : Archive) → IsArchive a → w.choice.now ≡ c → w.from ≡ Some 1
    → chosen_ahead w a ≡ chosen_in c a
walk_begins w c a is same begins =
    ap₂ (λ (d : own_choice.Choice) o. map (entry_of a) (chosen_after None (choice_view d) a o)) same begins ∙ whole None (choice_view c) a is

pub walked : (w v : Walk) (a : Archive) (o : Option (Vec own.RecordEntry Global)) (p : Vec own.RecordEntry Global) → o ≡ Some p
    → v.choice.now ≡ w.choice.now → IsTurn None (choice_view w.choice.now) a w.from (page_view o) v.from
    → IsSome w.from × (map entry_view p.items ++ chosen_ahead v a ≡ chosen_ahead w a) × IsFurther w.from v.from
walked w v a o p is same turn =
    let t = subst (λ x. IsTurn None (choice_view w.choice.now) a w.from (page_view x) v.from) is turn in (
      t.0,
      ap (λ (d : own_choice.Choice). map entry_view p.items ++ map (entry_of a) (chosen_after None (choice_view d) a v.from)) same ∙ t.1,
      t.2,
    )

pub none_to_walk : (w : Walk) (a : Archive) → IsArchive a → (k : ℕ) → 2 ^ 32 ≤ k → IfSome w.from (λ n. k ≤ n) → chosen_ahead w a ≡ []
none_to_walk w a is k big over = none_so_high None (choice_view w.choice.now) a is k big w.from over

-- where a walk stands is above the count of its steps
pub counts_up : (k : ℕ) (from next : Option ℕ) → IsSome from → IfSome from (λ n. k ≤ n) → IsFurther from next → IfSome next (λ m. k + 1 ≤ m)
counts_up k from None some at on = tt
counts_up k None (Some m) some at on = absurd (apart false some refl)
counts_up k (Some n) (Some m) some at on = omega (arith, at, on)

pub at_zero : (from : Option ℕ) → IfSome from (λ n. 0 ≤ n)
at_zero None = tt
at_zero (Some n) = omega arith

-- ---- the bounds of what is typed

any_typed : (n : ℕ) (ts : List TypedNumbers) → list_any (is_in n) (map span_typed ts) ≡ is_among ts n
any_typed n [] = refl
any_typed n (t ∷ ts) = ap (λ b. is_in n (span_typed t) || b) (any_typed n ts)

pub within_bounds : (ts : List TypedNumbers) (s : Span) → ((n : ℕ) → is_among ts n ≡ true → is_in n s ≡ true)
    → (ts ≡ [] → (n : ℕ) → 1 ≤ n → n < 2 ^ 32 → is_in n s ≡ true)
    → (n : ℕ) → 1 ≤ n → n < 2 ^ 32 → where_asked (list_any (is_in n)) (spans_typed ts) ≡ true → is_in n s ≡ true
within_bounds [] s typed every n one small asked = every refl n one small
within_bounds (t ∷ ts) s typed every n one small asked = typed n (sym (any_typed n (t ∷ ts)) ∙ asked)

pub in_span : (n first last : ℕ) → (nat_le first n && nat_le n last) ≡ true → (first ≤ n) × (n ≤ last)
in_span n first last inside = (grind (arith, nat_tests, inside), grind (arith, nat_tests, inside))

-- the numbers that are asked for are within the bounds of what is typed
pub bounds_hold : (c : Choice) (w : words.Choice) (us : List TypedNumbers) (s : Span) → c ≡ choice_typed w → us ≡ w.numbers.items
    → ((n : ℕ) → is_among us n ≡ true → is_in n s ≡ true) → (us ≡ [] → (n : ℕ) → 1 ≤ n → n < 2 ^ 32 → is_in n s ≡ true)
    → (n : ℕ) → 1 ≤ n → n < 2 ^ 32 → IsAsked c n → (s.first ≤ n) × (n ≤ s.last)
bounds_hold c w us s is same typed every n one small asked =
    in_span n s.first s.last (within_bounds us s typed every n one small
    (subst (λ ts. where_asked (list_any (is_in n)) (spans_typed ts) ≡ true) (sym same) (subst (λ d. IsAsked d n) is asked)))
