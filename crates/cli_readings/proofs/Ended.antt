-- Searches that have come to their ends.
use Rattle.std.proofs.Common.{◌≡◌, ◌≤◌, ℕ, List, [], ◌∷◌, ◌++◌, length, arith, refl, sym, ap, ap₂, ◌∙◌}
use Rattle.choice_words.specs.declared.choice.Choice as words
use Rattle.record_archive.specs.Archive.{Archive}
use Rattle.record_choice.specs.Entries.{RecordEntry}
use Rattle.cli_console.specs.Finds.{IsAtEnd, found_ahead, missing_among, missing_of, noted_at_end, numbers_of, singles_among}
use Rattle.cli_console.specs.declared.search.Search.{Search}
use Rattle.cli_console.proofs.Noted.{missing_is}

-- a search that began with nothing noted and came to its end
pub search_ended : (typed : words.Choice) (es : List RecordEntry) (begun ended : Search) (a : Archive) → begun.typed.now ≡ typed
    → begun.found.items ≡ [] → found_ahead begun a ≡ es → IsAtEnd begun a ended
    → missing_of ended ≡ missing_among typed.numbers.items (numbers_of es)
search_ended typed es begun ended a of none ahead at_end =
    let ts = typed.numbers.items in
    let noted : ended.found.items ≡ singles_among ts es =
    at_end.noted ∙ ap (λ l. l ++ singles_among begun.typed.now.numbers.items (found_ahead begun a)) none
    ∙ ap₂ (λ (w : words.Choice) l. singles_among w.numbers.items l) of ahead in
    ap (λ (w : words.Choice). missing_among w.numbers.items ended.found.items) (at_end.typed ∙ of) ∙ ap (missing_among ts) noted
    ∙ sym (missing_is ts es)

nil_front : (xs ys : List ℕ) → xs ++ ys ≡ [] → xs ≡ []
nil_front [] ys none = refl
nil_front (x ∷ xs) ys none = absurd (cc)

-- and one that has found nothing, and has nothing ahead
pub none_ahead : (begun ended : Search) (a : Archive) → begun.found.items ≡ [] → found_ahead begun a ≡ [] → ended.typed.now ≡ begun.typed.now
    → noted_at_end ended a ≡ noted_at_end begun a → IsAtEnd begun a ended
none_ahead begun ended a none ahead typed noted =
    let nothing : noted_at_end begun a ≡ [] = ap₂ (λ l es. l ++ singles_among begun.typed.now.numbers.items es) none ahead in record {
      typed = typed;
      noted = nil_front ended.found.items (singles_among ended.typed.now.numbers.items (found_ahead ended a)) (noted ∙ nothing) ∙ sym nothing;
    }

-- where a first page has a record, one is found
pub some_found : (found page ahead : List RecordEntry) → 1 ≤ length page → page ++ ahead ≡ found → 1 ≤ length found
some_found found [] ahead some both = absurd (omega (arith, some))
some_found [] (p ∷ page) ahead some both = absurd (cc both)
some_found (e ∷ found) (p ∷ page) ahead some both = omega arith
