-- Changes of a small archive, computed.
use Rattle.std.proofs.Common.{◌≡◌, ℕ, Bool, true, false, List, [], ◌∷◌, map, codes, refl}
use Rattle.choice_words.specs.declared.numbers.TypedNumbers.TheVariants.{One}
use Rattle.class_plan.specs.Plans.{first_plan}
use Rattle.cli_choice.specs.declared.holds.Change.TheVariants.{Place, End}
use Rattle.record_archive.specs.Archive.{Archive, Hold, Record}
use Rattle.record_archive.specs.Refiling.{refile}
use Rattle.record_choice.specs.Entries.{RecordEntry, entry_of}
use Rattle.cli_console.specs.Finds.{numbers_of}
use Rattle.cli_changes.specs.Holdings.{changed_numbers, changed_on, held_by, hold_command, hold_of, meant_numbers}
use Rattle.cli_changes.specs.Moves.{is_refused, moved_to, moving_numbers}
use Rattle.cli_changes.specs.Series.{answers_on, tried_on}

abbrev case : List ℕ
case = codes "case-7"

abbrev audit : List ℕ
audit = codes "audit"

abbrev unfiled : List ℕ
unfiled = codes "unfiled"

abbrev filed : ℕ → (path : List ℕ) → (destroyed : Bool) → Record
filed n path destroyed = record { number = n; message = n; path = path; day = 100; destroyed = destroyed }

-- records 1 and 2 are live, in two classes, and 3 is destroyed
abbrev with_these : List ℕ → List Hold → Archive
with_these path holds = record {
  plan = first_plan;
  messages = record { number = 1; body = codes "x" } ∷ record { number = 2; body = codes "y" } ∷ [];
  records = filed 1 path false ∷ filed 2 unfiled false ∷ filed 3 (codes "staff") true ∷ [];
  holds = holds;
}

-- the first record has two holds
abbrev archive : Archive
archive = with_these (codes "staff") (hold_of case 1 ∷ hold_of audit 1 ∷ [])

abbrev found : List RecordEntry
found = map (entry_of archive) archive.records

-- what is typed by its number is tried, whatever comes of it
meant_are : (meant_numbers Place case [] found ≡ 2 ∷ [])
    × (meant_numbers Place case (One 1 ∷ One 3 ∷ []) found ≡ 1 ∷ 2 ∷ 3 ∷ [])
    × (meant_numbers End case [] found ≡ 1 ∷ [])
    × (meant_numbers End case (One 2 ∷ []) found ≡ 1 ∷ 2 ∷ [])
meant_are = (refl, refl, refl, refl)

changed_are : (changed_numbers Place case found ≡ 2 ∷ [])
    × (changed_numbers Place (codes "new") found ≡ 1 ∷ 2 ∷ [])
    × (changed_numbers End case found ≡ 1 ∷ [])
    × (changed_numbers End (codes "new") found ≡ [])
    × (numbers_of (held_by case archive) ≡ 1 ∷ [])
changed_are = (refl, refl, refl, refl, refl)

-- the hold is on these records, or on none of them, and each other hold stays
holds_are : (changed_on Place case (2 ∷ []) archive ≡ with_these (codes "staff") (hold_of case 1 ∷ hold_of audit 1 ∷ hold_of case 2 ∷ []))
    × (changed_on End case (1 ∷ 2 ∷ []) archive ≡ with_these (codes "staff") (hold_of audit 1 ∷ []))
    × (changed_on End case [] archive ≡ archive)
holds_are = (refl, refl, refl)

-- one after the other, a refusal changes nothing
tried_are : (tried_on (hold_command Place case) (1 ∷ 2 ∷ 3 ∷ 4 ∷ []) archive ≡ changed_on Place case (2 ∷ []) archive)
    × (answers_on (hold_command Place case) (1 ∷ 2 ∷ 3 ∷ 4 ∷ []) archive ≡ false ∷ true ∷ false ∷ false ∷ [])
    × (tried_on (hold_command End case) (1 ∷ 2 ∷ []) archive ≡ changed_on End case (1 ∷ []) archive)
    × (answers_on (hold_command End case) (1 ∷ 1 ∷ []) archive ≡ true ∷ false ∷ [])
tried_are = (refl, refl, refl, refl)

-- a record moves to another class alone
moved_are : (moving_numbers unfiled found ≡ 1 ∷ [])
    × (moving_numbers (codes "staff") found ≡ 2 ∷ [])
    × (moved_to unfiled (1 ∷ []) archive ≡ with_these unfiled archive.holds)
    × (tried_on (λ n a. refile a n unfiled) (1 ∷ 3 ∷ []) archive ≡ with_these unfiled archive.holds)
    × (map (is_refused (One 3 ∷ One 2 ∷ [])) found ≡ false ∷ false ∷ true ∷ [])
moved_are = (refl, refl, refl, refl, refl)
