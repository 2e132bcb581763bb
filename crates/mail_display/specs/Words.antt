-- Encoded words (RFC 2047, section 2) as mail programs write them: anywhere in a text, with any text but "?".
use Rattle.std.specs.Prelude.{ℕ, Bool, false, List, [], ◌∷◌, take, drop, Option, Some, None, nat_lt, ◌==◌, ◌&&◌, not, if◌then◌else◌}
use Rattle.std.specs.List.{prefix_len}
use Rattle.mail_words.specs.Unfolding.{begins_with}
use Rattle.mail_words.specs.Words.{is_charset_octet}

-- an octet of encoded text
abbrev pub is_text_octet : ℕ → Bool
is_text_octet b = not (b == 63)

-- the parts of the word at the front of a text, and the rest
pub record Front : Type 0 where
  pub charset : List ℕ
  pub encoding : ℕ
  pub text : List ℕ
  pub rest : List ℕ

-- the text after "=?"
abbrev pub after_opening : List ℕ → Option (List ℕ)
after_opening [] = None
after_opening (a ∷ []) = None
after_opening (a ∷ b ∷ bs) = if (a == 61) && (b == 63) then Some bs else None

-- the octet between two "?", and the text after them
abbrev pub after_encoding : List ℕ → Option (ℕ × List ℕ)
after_encoding [] = None
after_encoding (a ∷ []) = None
after_encoding (a ∷ b ∷ []) = None
after_encoding (a ∷ b ∷ c ∷ bs) = if (a == 63) && (c == 63) then Some (b, bs) else None

-- the text after "?="
abbrev pub after_closing : List ℕ → Option (List ℕ)
after_closing [] = None
after_closing (a ∷ []) = None
after_closing (a ∷ b ∷ bs) = if (a == 63) && (b == 61) then Some bs else None

abbrev pub closed_word : List ℕ → ℕ → List ℕ → Option (List ℕ) → Option Front
closed_word charset encoding text None = None
closed_word charset encoding text (Some rest) = Some (record { charset = charset; encoding = encoding; text = text; rest = rest })

abbrev pub encoded_word : List ℕ → Option (ℕ × List ℕ) → Option Front
encoded_word charset None = None
encoded_word charset (Some e) =
    let n = prefix_len is_text_octet e.1 in closed_word charset e.0 (take n e.1) (after_closing (drop n e.1))

abbrev pub opened_word : Option (List ℕ) → Option Front
opened_word None = None
opened_word (Some opened) =
    let n = prefix_len is_charset_octet opened in encoded_word (take n opened) (after_encoding (drop n opened))

-- the word at the front of a text: =?charset?encoding?text?=
unfoldable pub word_at : List ℕ → Option Front
word_at text = opened_word (after_opening text)

abbrev pub names_charset : Option (List ℕ) → Bool
names_charset None = false
names_charset (Some opened) =
    let n = prefix_len is_charset_octet opened in nat_lt 0 n && begins_with 63 (drop n opened)

-- a text begins as a word does: with "=?", a charset's name and "?"
unfoldable pub begins_word : List ℕ → Bool
begins_word text = names_charset (after_opening text)
