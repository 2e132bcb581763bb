-- What a search notes of the numbers that are typed by themselves.
use Rattle.std.proofs.Common.{◌≡◌, ◌==◌, ◌<◌, ℕ, Bool, true, false, not, ◌||◌, cond, List, [], ◌∷◌, ◌++◌, map, filter, length, drop, get_or}
use Rattle.std.proofs.Common.{Option, Some, None, refl, sym, ap, ap₂, subst, ◌∙◌, arith}
use Rattle.std.specs.Prelude.{◌+◌, option_map}
use Rattle.std.specs.List.{AllByRecursion, list_any}
use Rattle.std.proofs.lemmas.Bool.Decides.{nat_tests}
use Rattle.std.proofs.lemmas.List.{append_assoc, append-nil, drop_more, map-append}
use Rattle.std.proofs.lemmas.List.Elements.{filter-append}
use Rattle.choice_words.specs.declared.choice.Choice as words
use Rattle.choice_words.specs.declared.numbers.TypedNumbers.{TypedNumbers}
use Rattle.choice_words.specs.declared.numbers.TypedNumbers.TheVariants.{One, Range}
use Rattle.record_archive.specs.Archive.{Archive}
use Rattle.record_choice.specs.Disposals.{is_one_of}
use Rattle.record_choice.specs.Entries.{RecordEntry, entry_of, entry_view}
use Rattle.record_choice.specs.Views.{choice_view}
use Rattle.record_choice.specs.Walks.{IsPageOf, chosen_after}
use Rattle.record_choice.specs.declared.entry.RecordEntry as own
use Rattle.record_choice.proofs.PageLaws.{all_weaker}
use Rattle.cli_choice.specs.Questions.{question_of}
use Rattle.cli_choice.specs.Typed.{is_one, singles}
use Rattle.cli_choice.specs.declared.search.FoundPage.{FoundPage}
use Rattle.cli_console.specs.declared.search.Search.{Search}
use Rattle.cli_console.specs.Finds.{HasSingles, IsAtEnd, IsSameSearch, found_ahead, missing_among, missing_of, noted_at_end, numbers_of}
use Rattle.cli_console.specs.Finds.{singles_among}
use Rattle.cli_console.specs.Turns.{IsSearchTurn, page_view, records_of}
use Rattle.cli_console.proofs.Ahead.{apart, page_ahead, turned}

-- ---- from step to step

singles_joined : (ts : List TypedNumbers) (es fs : List RecordEntry) → singles_among ts (es ++ fs) ≡ singles_among ts es ++ singles_among ts fs
singles_joined ts es fs =
    ap (filter (λ n. list_any (is_one n) ts)) (map-append (λ (e : RecordEntry). e.number) es fs)
    ∙ filter-append (λ n. list_any (is_one n) ts) (numbers_of es) (numbers_of fs)

-- what is noted of the next record, and then of those after it
pub noted_on : (ts : List TypedNumbers) (es : List own.RecordEntry) (e : own.RecordEntry) (i : ℕ) (old new all : List ℕ) → i < length es
    → e ≡ get_or es i e → new ≡ old ++ singles_among ts (entry_view e ∷ []) → old ++ singles_among ts (map entry_view (drop i es)) ≡ all
    → new ++ singles_among ts (map entry_view (drop (i + 1) es)) ≡ all
noted_on ts es e i old new all low is added so_far =
    let rest = drop (i + 1) es in
    let here : drop i es ≡ e ∷ rest = drop_more es i e low ∙ ap (λ x. x ∷ rest) (sym is) in
    ap (λ l. l ++ singles_among ts (map entry_view rest)) added
    ∙ append_assoc old (singles_among ts (entry_view e ∷ [])) (singles_among ts (map entry_view rest))
    ∙ ap (λ l. old ++ l) (sym (singles_joined ts (entry_view e ∷ []) (map entry_view rest))
    ∙ ap (λ l. singles_among ts (map entry_view l)) (sym here)) ∙ so_far

noted_still : (old new : Search) (a : Archive) (page : List RecordEntry) → IsSameSearch old new
    → IsPageOf (question_of old.questions.now) (choice_view old.choice) a old.from page new.from
    → new.found.items ≡ old.found.items ++ singles_among old.typed.now.numbers.items page → noted_at_end new a ≡ noted_at_end old a
noted_still old new a page same of noted =
    let ts = old.typed.now.numbers.items in
    ap₂ (λ l (w : words.Choice). l ++ singles_among w.numbers.items (found_ahead new a)) noted same.typed
    ∙ append_assoc old.found.items (singles_among ts page) (singles_among ts (found_ahead new a))
    ∙ ap (λ l. old.found.items ++ l)
    (sym (singles_joined ts page (found_ahead new a)) ∙ ap (singles_among ts) (page_ahead old new a page same of))

-- what is noted in a step that gave records, and in one that gave none
abbrev Notes : (old new : Search) → Option FoundPage → Type 0
Notes old new o =
    new.found.items ≡ old.found.items
    ++ singles_among old.typed.now.numbers.items (records_of (page_view (option_map (λ (p : FoundPage). p.found) o)))

pub noted_page : (old new : Search) (a : Archive) (o : Option FoundPage) (p : FoundPage) → o ≡ Some p → IsSameSearch old new
    → IsSearchTurn (question_of old.questions.now) (choice_view old.choice) a old.last old.from
    (page_view (option_map (λ (x : FoundPage). x.found) o)) new.from
    → Notes old new o → noted_at_end new a ≡ noted_at_end old a
noted_page old new a o p some same turn notes =
    noted_still old new a (map entry_view p.found.items) same (turned old a o p new.from some turn).1 (subst (Notes old new) some notes)

pub noted_none : (old new : Search) (a : Archive) (o : Option FoundPage) → o ≡ None → IsSameSearch old new
    → IsSearchTurn (question_of old.questions.now) (choice_view old.choice) a old.last old.from
    (page_view (option_map (λ (p : FoundPage). p.found) o)) new.from
    → Notes old new o → noted_at_end new a ≡ noted_at_end old a
noted_none old new a o none same turn notes =
    let q = question_of old.questions.now in
    let c = choice_view old.choice in
    let stays = (subst (λ (x : Option FoundPage). IsSearchTurn q c a old.last old.from
    (page_view (option_map (λ (p : FoundPage). p.found) x)) new.from) none turn).1 in
    noted_still old new a [] same (ap (λ from. map (entry_of a) (chosen_after q c a from)) stays) (subst (Notes old new) none notes)

-- ---- at the end

-- a search with nothing ahead has noted all
pub all_noted : (s : Search) (a : Archive) → found_ahead s a ≡ [] → s.found.items ≡ noted_at_end s a
all_noted s a none =
    sym (append-nil s.found.items) ∙ ap (λ l. s.found.items ++ singles_among s.typed.now.numbers.items l) (sym none)

-- and has so after a step that gave none
pub noted_last : (old new : Search) (a : Archive) (o : Option FoundPage) → o ≡ None → found_ahead old a ≡ [] → Notes old new o
    → new.found.items ≡ noted_at_end old a
noted_last old new a o is none notes =
    subst (Notes old new) is notes ∙ ap (λ l. old.found.items ++ singles_among old.typed.now.numbers.items l) (sym none)

-- ---- where none is missing, each number that is typed by itself is found

in_kept : (p : ℕ → Bool) (ns : List ℕ) (n : ℕ) → p n ≡ true → is_one_of (filter p ns) n ≡ is_one_of ns n
in_kept p [] n is = refl
in_kept p (m ∷ ms) n is = go (p m) refl (n == m) refl (in_kept p ms n is)
  where
    go : (b : Bool) → p m ≡ b → (c : Bool) → (n == m) ≡ c → is_one_of (filter p ms) n ≡ is_one_of ms n
        → is_one_of (cond b (m ∷ filter p ms) (filter p ms)) n ≡ ((n == m) || is_one_of ms n)
    go true e c f more = ap (λ d. (n == m) || d) more
    go false e true f more =
        let same : n ≡ m = grind (arith, nat_tests, f) in absurd (apart (p m) (subst (λ k. p k ≡ true) same is) e)
    go false e false f more = more ∙ sym (ap (λ d. d || is_one_of ms n) f)

same_number : (n : ℕ) → (n == n) ≡ true
same_number n = grind arith

or_later : (b c : Bool) → c ≡ true → (b || c) ≡ true
or_later true c e = refl
or_later false c e = e

each_single : (ts : List TypedNumbers) → AllByRecursion (λ n. list_any (is_one n) ts ≡ true) (singles ts)
each_single [] = tt
each_single (One m ∷ ts) = (
  ap (λ b. b || list_any (is_one m) ts) (same_number m),
  all_weaker (λ n. list_any (is_one n) ts ≡ true) (λ n. list_any (is_one n) (One m ∷ ts) ≡ true)
      (λ n single. or_later (m == n) (list_any (is_one n) ts) single) (singles ts) (each_single ts),
)
each_single (Range first last ∷ ts) = each_single ts

filter_same : (p q : ℕ → Bool) (ns : List ℕ) → AllByRecursion (λ n. p n ≡ q n) ns → filter p ns ≡ filter q ns
filter_same p q [] same = refl
filter_same p q (n ∷ ns) same = ap₂ (λ b l. cond b (n ∷ l) l) same.0 (filter_same p q ns same.1)

-- what is missing of those that are noted is missing of all that is found
pub missing_is : (ts : List TypedNumbers) (es : List RecordEntry) → missing_among ts (numbers_of es) ≡ missing_among ts (singles_among ts es)
missing_is ts es =
    let p : ℕ → Bool = λ n. list_any (is_one n) ts in
    filter_same (λ n. not (is_one_of (numbers_of es) n)) (λ n. not (is_one_of (singles_among ts es) n)) (singles ts)
    (all_weaker (λ n. p n ≡ true) (λ n. not (is_one_of (numbers_of es) n) ≡ not (is_one_of (singles_among ts es) n))
    (λ n single. ap not (sym (in_kept p (numbers_of es) n single))) (singles ts) (each_single ts))

-- A SEARCH THAT BEGAN WITH NOTHING NOTED, came to its end and misses none
pub has_singles : (typed : words.Choice) (es : List RecordEntry) (begun ended : Search) (a : Archive) → begun.typed.now ≡ typed
    → begun.found.items ≡ [] → found_ahead begun a ≡ es → IsAtEnd begun a ended → missing_of ended ≡ [] → HasSingles typed.numbers.items es
has_singles typed es begun ended a of none ahead at_end misses =
    let ts = typed.numbers.items in
    let noted : ended.found.items ≡ singles_among ts es =
    at_end.noted ∙ ap (λ l. l ++ singles_among begun.typed.now.numbers.items (found_ahead begun a)) none
    ∙ ap₂ (λ (w : words.Choice) l. singles_among w.numbers.items l) of ahead in
    missing_is ts es ∙ ap (missing_among ts) (sym noted)
    ∙ ap (λ (w : words.Choice). missing_among w.numbers.items ended.found.items) (sym (at_end.typed ∙ of)) ∙ misses
