-- Examples of the definitions.
use Rattle.std.proofs.Common.{◌≡◌, ◌∷◌, [], true, not, refl}
use Rattle.std.specs.Prelude.{codes}
use Rattle.std.specs.List.{list_all}
use Rattle.std.specs.Str.{chars, is_utf8}
use Rattle.std.specs.Str.Lossy.{utf8_valid_len, utf8_error_len}
use Rattle.unicode_width.specs.Width.{char_width}
use Rattle.tool_texts.specs.Quoting.{is_hidden, is_attached, octet_text, scalar_text, shown_of, visible_of, visible_text, escaped_text}
use Rattle.tool_texts.specs.Quoting.{quoted_text, named_text}

-- a tab, a letter, a line feed and DEL
controls : escaped_text (9 ∷ 97 ∷ 10 ∷ 127 ∷ []) ≡ 92 ∷ 116 ∷ 97 ∷ 92 ∷ 110 ∷ 92 ∷ 120 ∷ 55 ∷ 102 ∷ []
unfolding escaped_text shown_of is_attached octet_text scalar_text utf8_valid_len utf8_error_len is_utf8 chars char_width lib.Utf8.encode
controls = refl

-- the first two octets of a character of three, and a letter
half : escaped_text (0xe2 ∷ 0x82 ∷ 97 ∷ []) ≡ 92 ∷ 120 ∷ 101 ∷ 50 ∷ 92 ∷ 120 ∷ 56 ∷ 50 ∷ 97 ∷ []
unfolding escaped_text shown_of is_attached octet_text scalar_text utf8_valid_len utf8_error_len is_utf8 chars char_width lib.Utf8.encode
half = refl

-- the override to the left, U+202E
override : escaped_text (0xe2 ∷ 0x80 ∷ 0xae ∷ []) ≡ 92 ∷ 117 ∷ 123 ∷ 50 ∷ 48 ∷ 50 ∷ 101 ∷ 125 ∷ []
unfolding escaped_text shown_of octet_text scalar_text utf8_valid_len utf8_error_len is_utf8 chars lib.Utf8.encode
override = refl

-- a quotation mark and a backslash
marks : quoted_text (34 ∷ 92 ∷ []) ≡ 34 ∷ 92 ∷ 34 ∷ 92 ∷ 92 ∷ 34 ∷ []
unfolding escaped_text shown_of is_attached octet_text scalar_text utf8_valid_len utf8_error_len is_utf8 chars char_width lib.Utf8.encode
marks = refl

bare : named_text (codes "main") ≡ codes "main"
bare = refl

no_name : named_text [] ≡ 34 ∷ 34 ∷ []
unfolding escaped_text chars
no_name = refl

-- fillers of Hangul, a blank pattern of Braille, selectors of a form, controls of music, and what stands for an object
unseen : list_all is_hidden (0x115f ∷ 0x1160 ∷ 0x3164 ∷ 0xffa0 ∷ 0x2800 ∷ 0xfe00 ∷ 0xfe0f ∷ 0x1d173 ∷ 0x1d17a
    ∷ 0xe0100 ∷ 0xe01ef ∷ 0xfffc ∷ []) ≡ true
unseen = refl

-- those beside them
seen : list_all (λ c. not (is_hidden c)) (0x115e ∷ 0x1161 ∷ 0x3163 ∷ 0x3165 ∷ 0xff9f ∷ 0xffa1 ∷ 0x27ff ∷ 0x2801
    ∷ 0xfdff ∷ 0xfe10 ∷ 0x1d172 ∷ 0x1d17b ∷ 0xe1000 ∷ 0xfffd ∷ []) ≡ true
seen = refl

-- the filler of Hangul, U+3164
filler : escaped_text (0xe3 ∷ 0x85 ∷ 0xa4 ∷ []) ≡ 92 ∷ 117 ∷ 123 ∷ 51 ∷ 49 ∷ 54 ∷ 52 ∷ 125 ∷ []
unfolding escaped_text shown_of octet_text scalar_text utf8_valid_len utf8_error_len is_utf8 chars lib.Utf8.encode
filler = refl

-- a letter, a quotation mark and a line feed in no quotation marks
words : visible_text (97 ∷ 34 ∷ 10 ∷ []) ≡ 97 ∷ 34 ∷ 92 ∷ 110 ∷ []
unfolding visible_of is_attached octet_text chars char_width
words = refl
