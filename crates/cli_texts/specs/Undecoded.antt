-- The lines on words that rules see undecoded.
use Rattle.std.specs.Prelude.{ℕ, Bool, if◌then◌else◌, List, [], ◌∷◌, ◌++◌, codes}
use Rattle.std.specs.List.{list_any}
use Rattle.mail_display.specs.Groups.{is_called}
use Rattle.cli_texts.specs.Words.{words, name}

-- rules decode each word in these charsets that is written as it has to be
abbrev pub is_known : (charset : List ℕ) → Bool
is_known charset = list_any (is_called charset) (codes "us-ascii" ∷ codes "utf-8" ∷ codes "iso-8859-1" ∷ [])

abbrev pub cause_words : (charset : List ℕ) → List ℕ
cause_words charset = words (if is_known charset then codes ", in a form that rules do not decode" else codes ", which rules see undecoded")

-- THE LINE OF A WORD, by the name of its field and its charset, without the end of the line
unfoldable pub undecoded_words : List ℕ × List ℕ → List ℕ
undecoded_words w = name w.0 ++ words (codes " has a word in ") ++ name w.1 ++ cause_words w.1
