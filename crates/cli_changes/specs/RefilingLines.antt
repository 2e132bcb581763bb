-- The lines of a refiling.
use Rattle.std.specs.Prelude.{ℕ, List, [], ◌∷◌, ◌++◌, codes, Option}
use Rattle.jiff_core.specs.declared.civil.date.Date.{Date}
use Rattle.cli_texts.specs.Lines.{due_words, record_number}
use Rattle.cli_texts.specs.Words.{name, number, words}
use Rattle.record_choice.specs.declared.entry.RecordEntry.{RecordEntry}
use Rattle.cli_changes.specs.declared.refile.MoveTally.{MoveTally}
use Rattle.cli_changes.specs.DueToday.{due_today_lines}

-- A RECORD THAT IS TO GET A CLASS: its class and due date as they are, and as they will be. It is one of a volume, in an archive of volumes.
unfoldable pub move_line : (volume : Option ℕ) → RecordEntry → (to : List ℕ) → (due : Option Date) → List ℕ
move_line volume e to due =
    words (codes "record ") ++ record_number volume e.number ++ words (codes " class ") ++ name e.path.items ++ words (codes " due ")
    ++ due_words e.due ++ words (codes " to ") ++ name to ++ words (codes " due ") ++ due_words due ++ 10 ∷ []

-- one that has the class already
unfoldable pub there_words : (volume : Option ℕ) → (record_number : ℕ) → (to : List ℕ) → List ℕ
there_words volume n to = record_number volume n ++ words (codes ": the record is in ") ++ name to ++ words (codes " already")

-- HOW MANY GET IT, and how many are due at once by that, in three lines
unfoldable pub moves_lines : MoveTally → List ℕ
moves_lines t = words (codes "records that get another class: ") ++ number t.count ++ (10 ∷ []) ++ due_today_lines t.before t.after

-- one that has got it
unfoldable pub refiled_line : (volume : Option ℕ) → (number : ℕ) → (to : List ℕ) → List ℕ
refiled_line volume n to = words (codes "record ") ++ record_number volume n ++ words (codes " refiled to ") ++ name to ++ 10 ∷ []
