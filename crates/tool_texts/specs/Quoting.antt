-- Octets as they are shown, and the characters that are never shown as they are, by their numbers.
use Rattle.std.specs.Prelude.{◌≡◌, ℕ, zero, suc, Bool, true, false, not, List, [], ◌∷◌, ◌++◌, Option, Some, None, length, take, drop, flat_map, nat_le, nat_lt, ◌==◌, ◌&&◌, ◌||◌, if◌then◌else◌}
use Rattle.std.specs.Char.Escape.{backslash, escape_ascii, escape_unicode}
use Rattle.std.specs.List.{list_all}
use Rattle.std.specs.Str.{chars, encode_utf8_all}
use Rattle.std.specs.Str.Lossy.{utf8_valid_len, utf8_invalid_len, after_first_chunk}
use Rattle.unicode_width.specs.Width.{char_width}

abbrev pub is_from : ℕ → ℕ → ℕ → Bool
is_from first last c = nat_le first c && nat_le c last

-- the controls of C0, DEL, and those of C1
abbrev pub is_control : ℕ → Bool
is_control c = nat_le c 0x1f || is_from 0x7f 0x9f c

-- spaces without a width and marks of direction; separators of lines and paragraphs, and embeddings; invisible
-- operators and isolates
abbrev pub is_mark : ℕ → Bool
is_mark c = is_from 0x200b 0x200f c || is_from 0x2028 0x202e c || is_from 0x2060 0x206f c

-- the soft hyphen, the grapheme joiner, the Arabic letter mark, and the mark of the order of octets
abbrev pub is_formless : ℕ → Bool
is_formless c = (c == 0xad) || (c == 0x34f) || (c == 0x61c) || (c == 0xfeff)

-- fillers of Hangul, and the pattern of Braille without a dot: each looks like a blank
abbrev pub is_filler : ℕ → Bool
is_filler c = is_from 0x115f 0x1160 c || (c == 0x2800) || (c == 0x3164) || (c == 0xffa0)

-- selectors of a character's form, those of Mongolian with its vowel separator, and the inherent vowels of Khmer
abbrev pub is_selector : ℕ → Bool
is_selector c = is_from 0xfe00 0xfe0f c || is_from 0x180b 0x180f c || is_from 0x17b4 0x17b5 c

-- controls of shorthand and of music
abbrev pub is_format : ℕ → Bool
is_format c = is_from 0x1bca0 0x1bca3 c || is_from 0x1d173 0x1d17a c

-- interlinear marks with what is reserved before them, what stands for an object, and tags with further selectors
abbrev pub is_tag : ℕ → Bool
is_tag c = is_from 0xfff0 0xfffc c || is_from 0xe0000 0xe0fff c

-- all that Unicode 16.0 lets a display leave out (DerivedCoreProperties.txt, Default_Ignorable_Code_Point), and with it the
-- controls, the separators of lines and paragraphs, the interlinear marks, U+2800 and U+FFFC
abbrev pub is_hidden : ℕ → Bool
is_hidden c = is_control c || is_mark c || is_formless c || is_filler c || is_selector c || is_format c || is_tag c

-- the text of characters of which none is hidden
pub record IsShown (text : List ℕ) : Type 0 where
  pub characters : List ℕ
  pub are_shown : list_all (λ c. not (is_hidden c)) characters ≡ true
  pub spelled : encode_utf8_all characters ≡ text

-- the text of such characters, and of line feeds
pub record AreLines (text : List ℕ) : Type 0 where
  pub characters : List ℕ
  pub are_shown : list_all (λ c. (c == 10) || not (is_hidden c)) characters ≡ true
  pub spelled : encode_utf8_all characters ≡ text

-- ---- the text of a character

abbrev pub is_zero : Option ℕ → Bool
is_zero (Some width) = width == 0
is_zero None = false

-- a character without a column, which changes the look of the one before it
unfoldable pub is_attached : ℕ → Bool
is_attached c = is_zero (char_width false c)

-- a character is shown by its number where it is hidden, or is attached and comes after none that is plain
abbrev pub needs_number : (after_plain : Bool) → ℕ → Bool
needs_number after_plain c = is_hidden c || (is_attached c && not after_plain)

-- a quotation mark and a backslash come after a backslash
abbrev pub is_quoting : ℕ → Bool
is_quoting c = (c == 34) || (c == backslash)

-- a plain character is shown as it is
abbrev pub is_plain : (after_plain : Bool) → ℕ → Bool
is_plain after_plain c = not (needs_number after_plain c) && not (is_quoting c)

-- tab, CR and LF are `\t`, `\r` and `\n`; another control of ASCII, and an octet above it, is `\x` and two digits
unfoldable pub octet_text : ℕ → List ℕ
octet_text octet = escape_ascii octet

-- the hexadecimal digits of the number, as `\u{202e}`
unfoldable pub scalar_text : ℕ → List ℕ
scalar_text c = escape_unicode c

abbrev pub number_text : ℕ → List ℕ
number_text c = if nat_lt c 0x80 then octet_text c else scalar_text c

unfoldable pub shown_of : (after_plain : Bool) → ℕ → List ℕ
shown_of after_plain c =
    if needs_number after_plain c then number_text c
    else if is_quoting c then backslash ∷ c ∷ [] else c ∷ []

-- a character of a text that stands in no quotation marks
unfoldable pub visible_of : (after_plain : Bool) → ℕ → List ℕ
visible_of after_plain c = if needs_number after_plain c then number_text c else c ∷ []

-- ---- the text of octets

-- characters that follow one that is plain, or none
abbrev pub shown_after : (after_plain : Bool) → List ℕ → List ℕ
shown_after after_plain [] = []
shown_after after_plain (c ∷ cs) = shown_of after_plain c ++ shown_after (is_plain after_plain c) cs

-- the same without quotation marks around it
abbrev pub visible_after : (after_plain : Bool) → List ℕ → List ℕ
visible_after after_plain [] = []
visible_after after_plain (c ∷ cs) = visible_of after_plain c ++ visible_after (not (needs_number after_plain c)) cs

abbrev pub visible_text : (text : List ℕ) → List ℕ
visible_text text = visible_after false (chars text)

-- the characters of the longest front that is UTF-8
abbrev pub front_text : (octets : List ℕ) → List ℕ
front_text octets = shown_after false (chars (take (utf8_valid_len octets) octets))

-- the octets after that front that are part of no character
abbrev pub stray_octets : (octets : List ℕ) → List ℕ
stray_octets octets = let rest = drop (utf8_valid_len octets) octets in take (utf8_invalid_len rest) rest

-- the text where at most so many times octets are no UTF-8
abbrev pub escaped_within : (times : ℕ) → (octets : List ℕ) → List ℕ
escaped_within zero octets = shown_after false (chars octets)
escaped_within (suc times) octets =
    if utf8_valid_len octets == length octets then shown_after false (chars octets)
    else front_text octets ++ (flat_map octet_text (stray_octets octets) ++ escaped_within times (after_first_chunk octets))

-- characters as they are shown, and each octet that is part of none by its digits
unfoldable pub escaped_text : (octets : List ℕ) → List ℕ
escaped_text octets = escaped_within (length octets) octets

abbrev pub quoted_text : (octets : List ℕ) → List ℕ
quoted_text octets = 34 ∷ (escaped_text octets ++ 34 ∷ [])

-- visible ASCII, but for quotation marks and backslashes
abbrev pub is_bare_octet : ℕ → Bool
is_bare_octet octet = (is_from 33 126 octet && not (octet == 34)) && not (octet == backslash)

-- one such octet or more
abbrev pub is_bare : (name : List ℕ) → Bool
is_bare name = nat_lt 0 (length name) && list_all is_bare_octet name

-- a bare name as it is, any other in quotation marks
abbrev pub named_text : (name : List ℕ) → List ℕ
named_text name = if is_bare name then name else quoted_text name
