-- The lines of what is due and may be destroyed.
use Rattle.std.specs.Prelude.{ℕ, ℤ, Bool, if◌then◌else◌, List, [], ◌∷◌, ◌++◌, flat_map, codes, Option}
use Rattle.cli_texts.specs.Lines.{captured, record_number}
use Rattle.cli_texts.specs.Words.{words}
use Rattle.cli_console.specs.Sinks.{Writes}
use Rattle.cli_history.specs.declared.seals.Seals.{Seals}
use Rattle.record_archive.specs.Archive.{Archive}
use Rattle.record_archive.specs.declared.line.Line.{Line}
use Rattle.record_choice.specs.Disposals.{is_one_of}
use Rattle.cli_changes.specs.Destructions.{IsAskedFor}
use Rattle.cli_changes.specs.Runs.{altered}
use Rattle.cli_changes.specs.declared.dispose.Asked.{Asked}

-- that the message of a record is not the one that was captured
unfoldable pub altered_words : (volume : Option ℕ) → (number : ℕ) → List ℕ
altered_words volume n = words (codes "record ") ++ record_number volume n ++ words (codes ": its message is not the one that was captured")

abbrev pub altered_note : (is_altered : Bool) → List ℕ
altered_note is_altered = if is_altered then words (codes "; its message is not the one that was captured") else []

-- A RECORD THAT IS DUE: its line says where its message is not the one that was captured
abbrev pub due_line : (volume : Option ℕ) → Line → (is_altered : Bool) → List ℕ
due_line volume l is_altered = captured volume l ++ altered_note is_altered ++ 10 ∷ []

-- the lines of records, of which some were altered
abbrev pub due_lines : (volume : Option ℕ) → (altered : List ℕ) → List Line → List ℕ
due_lines volume altered lines = flat_map (λ (l : Line). due_line volume l (is_one_of altered l.number)) lines

-- THE LIST OF A DISPOSAL: the line of each record that is asked for, once, in their order, and nothing else
pub record ListsAsked {K : Type 0} (written : K → List ℕ → Type 0) (volume : Option ℕ) (seals : Seals) (a : Archive) (day : ℤ)
    (asked : List ℕ) (before after : K) : Type 0 where
  pub these : Asked
  pub are : IsAskedFor seals a day asked these
  pub listed : Writes written before after (due_lines volume (altered these.runs.items) these.lines.items)
