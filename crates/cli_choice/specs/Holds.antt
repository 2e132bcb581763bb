-- On which of the chosen records a hold is placed, or ended.
use Rattle.std.specs.Prelude.{ℕ, Bool, not, ◌&&◌, ◌||◌, List}
use Rattle.std.specs.List.{list_any}
use Rattle.choice_words.specs.declared.numbers.TypedNumbers.{TypedNumbers}
use Rattle.record_choice.specs.Choices.{named}
use Rattle.record_choice.specs.Entries.{RecordEntry}
use Rattle.record_choice.specs.Views.{shows_hold}
use Rattle.cli_choice.specs.declared.holds.Change.{Change}
use Rattle.cli_choice.specs.declared.holds.Change.TheVariants.{Place, End}
use Rattle.cli_choice.specs.Typed.{is_one}

-- a hold is placed on what is live and not kept by it yet, and ended on what it keeps
abbrev pub is_changed : Change → (name : List ℕ) → RecordEntry → Bool
is_changed Place name e = not e.destroyed && not (shows_hold e.holds (named name))
is_changed End name e = not e.destroyed && shows_hold e.holds (named name)

-- WHAT IS TYPED BY ITSELF, and of the other records each that is altered
abbrev pub is_meant : Change → (name : List ℕ) → List TypedNumbers → RecordEntry → Bool
is_meant change name typed e = list_any (is_one e.number) typed || is_changed change name e
