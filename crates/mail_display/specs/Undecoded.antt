-- The encoded words that rules see as they are written.
use Rattle.std.specs.Prelude.{ℕ, Bool, List, [], ◌∷◌, ◌++◌, length, Option, Some, None, nat_lt, fold, map, flat_map, ◌&&◌, ◌||◌, if◌then◌else◌}
use Rattle.std.specs.List.{list_any}
use Rattle.mail_head.specs.Fields.{fields_of}
use Rattle.mail_words.specs.Value.{value_of_body}
use Rattle.mail_display.specs.Groups.{is_called}
use Rattle.mail_display.specs.Words.{Front, word_at}

-- the charset that a word names, if it names one
abbrev pub named_charset : Option Front → Option (List ℕ)
named_charset None = None
named_charset (Some w) = if nat_lt 0 (length w.charset) then Some w.charset else None

-- the charset of the word at the front of a text, if one stands there and names one
unfoldable pub charset_at : List ℕ → Option (List ℕ)
charset_at text = named_charset (word_at text)

abbrev pub or_none : Option (List ℕ) → List (List ℕ)
or_none None = []
or_none (Some charset) = charset ∷ []

-- the charsets of the words that stand in a text, wherever they stand, in their order
unfoldable pub charsets_in : List ℕ → List (List ℕ)
charsets_in [] = []
charsets_in (b ∷ bs) = or_none (charset_at (b ∷ bs)) ++ charsets_in bs

-- a field's name and a charset, for each word that stands in the field's value: rules decoded the others
abbrev pub words_in : List ℕ × List ℕ → List (List ℕ × List ℕ)
words_in field = map (λ charset. (field.0, charset)) (charsets_in (value_of_body field.1))

-- the same name and the same charset, in any case of their letters
abbrev pub is_same : List ℕ × List ℕ → List ℕ × List ℕ → Bool
is_same w other = is_called w.0 other.0 && is_called w.1 other.1

-- one word more, unless one like it is there, or there are twenty
abbrev pub with_word : List (List ℕ × List ℕ) → List ℕ × List ℕ → List (List ℕ × List ℕ)
with_word words w = if list_any (is_same w) words || nat_lt 19 (length words) then words else words ++ w ∷ []

-- of the words that rules see as they are written in a message's fields, the first twenty that differ
unfoldable pub undecoded_in : List ℕ → List (List ℕ × List ℕ)
undecoded_in message = fold with_word [] (flat_map words_in (fields_of message))
