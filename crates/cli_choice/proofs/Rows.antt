-- The definitions on worked rows.
use Rattle.std.proofs.Common.{◌≡◌, ℕ, pos, Bool, true, false, List, [], ◌∷◌, map, codes, Some, None, refl}
use Rattle.choice_words.specs.declared.numbers.TypedNumbers.{TypedNumbers}
use Rattle.choice_words.specs.declared.numbers.TypedNumbers.TheVariants.{One, Range}
use Rattle.record_archive.specs.Archive.{Line}
use Rattle.record_choice.specs.Entries.{RecordEntry}
use Rattle.cli_choice.specs.declared.holds.Change.{Change}
use Rattle.cli_choice.specs.declared.holds.Change.TheVariants.{Place, End}
use Rattle.cli_choice.specs.Typed.{spans_typed, is_among, singles}
use Rattle.cli_choice.specs.Holds.{is_meant}
use Rattle.cli_choice.specs.Disposals.{numbers_meant}

-- 3 5-9 7
abbrev typed : List TypedNumbers
typed = One 3 ∷ Range 5 9 ∷ One 7 ∷ []

spans_are : spans_typed typed
    ≡ Some (record { first = 3; last = 3 } ∷ record { first = 5; last = 9 } ∷ record { first = 7; last = 7 } ∷ [])
spans_are = refl

no_spans : spans_typed [] ≡ None
no_spans = refl

numbers_are : map (is_among typed) (2 ∷ 3 ∷ 4 ∷ 5 ∷ 9 ∷ 10 ∷ []) ≡ false ∷ true ∷ false ∷ true ∷ true ∷ false ∷ []
numbers_are = refl

singles_are : singles typed ≡ 3 ∷ 7 ∷ []
singles_are = refl

abbrev line : ℕ → Line
line n = record { number = n; path = codes "a"; due = Some (pos 100) }

-- 8 and 5 may be destroyed and are in the range, 2 and 11 are not in it
meant_are : numbers_meant typed (line 8 ∷ line 2 ∷ line 5 ∷ line 11 ∷ []) ≡ 3 ∷ 7 ∷ 8 ∷ 5 ∷ []
meant_are = refl

abbrev entry : ℕ → Bool → List (List ℕ) → RecordEntry
entry n gone holds = record { number = n; path = codes "a"; day = pos 100; due = None; message = n; destroyed = gone; holds = holds }

-- each change and record, and whether the hold `audit` is to be changed on it
abbrev rows : List (Change × RecordEntry × Bool)
rows =
    (Place, entry 5 false [], true) ∷
    (Place, entry 5 false (codes "court" ∷ []), true) ∷
    (Place, entry 5 false (codes "audit" ∷ []), false) ∷
    (Place, entry 5 true [], false) ∷
    (Place, entry 7 false (codes "audit" ∷ []), true) ∷
    (Place, entry 3 true [], true) ∷
    (End, entry 5 false (codes "court" ∷ codes "audit" ∷ []), true) ∷
    (End, entry 5 false (codes "court" ∷ []), false) ∷
    (End, entry 3 false [], true) ∷
    []

changes_are : map (λ r. is_meant r.0 (codes "audit") typed r.1) rows ≡ map (λ r. r.2) rows
changes_are = refl
