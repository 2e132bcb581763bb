-- The text that people are shown for a field's body.
use Rattle.std.specs.Prelude.{ℕ, zero, suc, ◌+◌, Bool, true, false, List, [], ◌∷◌, ◌++◌, length, drop, Option, Some, None, ◌==◌, ◌&&◌, not, if◌then◌else◌}
use Rattle.std.specs.List.{prefix_len, list_any}
use Rattle.mail_words.specs.Unfolding.{is_blank, without_line_ends, without_outer_blanks}
use Rattle.mail_charsets.specs.declared.charset.Charset.TheVariants.{Utf8}
use Rattle.mail_charsets.specs.Decoding.{text_of, unread_of}
use Rattle.mail_display.specs.Words.{begins_word}
use Rattle.mail_display.specs.Decoding.{Readable, readable_at}

-- a text after a word, without the blanks at its front
abbrev pub without_gap : List ℕ → List ℕ
without_gap text = drop (prefix_len is_blank text) text

-- the word that can be decoded and stands at the front; after another such word, blanks may stand before it, which are
-- then not shown (RFC 2047, section 6.2)
abbrev pub word_after_gap : Bool → List ℕ → Option Readable
word_after_gap after text = readable_at (if after then without_gap text else text)

-- one for each word that could not be read, which the text begins with
abbrev pub unread_front : List ℕ → ℕ
unread_front text = if begins_word text then 1 else 0

-- what is shown, and how many words could not be read: of a decoded word its text, and else the first octet, each
-- before what is shown of the rest
abbrev pub shown_piece : Option Readable → ℕ → List ℕ → (Bool → List ℕ → List ℕ × ℕ) → List ℕ × ℕ
shown_piece (Some w) b bs more =
    let rest = more true w.rest in (w.octets ++ rest.0, (if w.is_whole then 0 else 1) + rest.1)
shown_piece None b bs more = let rest = more false bs in (b ∷ rest.0, unread_front (b ∷ bs) + rest.1)

-- what is shown of a text, after a decoded word or not; the number is at least the length of the text
unfoldable pub shown : ℕ → Bool → List ℕ → List ℕ × ℕ
shown zero after text = ([], 0)
shown (suc n) after [] = ([], 0)
shown (suc n) after (b ∷ bs) = shown_piece (word_after_gap after (b ∷ bs)) b bs (shown n)

-- what is shown of a line
abbrev pub shown_line : List ℕ → List ℕ × ℕ
shown_line line = shown (length line) false line

-- a body as one line (RFC 5322, section 2.2.3), without blanks at both ends
abbrev pub line_of : List ℕ → List ℕ
line_of body = without_outer_blanks (without_line_ends body)

-- a body has no line end, and no "=", with which each encoded word begins
abbrev pub is_plain : List ℕ → Bool
is_plain body = not (list_any (λ b. b == 10) body) && not (list_any (λ b. b == 61) body)

-- the text of a body
unfoldable pub display_text : List ℕ → List ℕ
display_text body = text_of Utf8 (shown_line (line_of body)).0

-- how much of a body could not be read
unfoldable pub display_unread : List ℕ → ℕ
display_unread body = (shown_line (line_of body)).1 + unread_of Utf8 (shown_line (line_of body)).0
