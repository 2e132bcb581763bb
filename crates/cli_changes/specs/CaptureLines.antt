-- The lines of a capture.
use Rattle.std.specs.Prelude.{ℕ, List, ◌++◌, codes, Option}
use Rattle.cli_texts.specs.Lines.{captured}
use Rattle.cli_texts.specs.Words.{words}
use Rattle.record_archive.specs.declared.line.Line.{Line}

-- a record of a capture, after a text
unfoldable pub captured_after : (before : List ℕ) → (volume : Option ℕ) → Line → List ℕ
captured_after before volume l = before ++ captured volume l

-- A RECORD IS DUE as it is captured
unfoldable pub due_words : (before : List ℕ) → (volume : Option ℕ) → Line → List ℕ
due_words before volume l = captured_after before volume l ++ words (codes " is due already")
