-- The syntax of encoded words (RFC 2047, sections 2 and 5), without the limit on their length.
use Rattle.std.specs.Prelude.{◌≡◌, ℕ, ◌<◌, Bool, true, false, List, [], ◌∷◌, ◌++◌, length, drop, Option, Some, None, option_map, nat_lt, nat_le, slice_index, ◌==◌, ◌&&◌, ◌||◌, not, if◌then◌else◌}
use Rattle.std.specs.List.{list_any, list_all, take_while}
use Rattle.mail_words.specs.Unfolding.{is_blank, IsFirstOctet}
use Rattle.mail_words.specs.declared.words.WordPart.{WordPart}
use Rattle.mail_words.specs.declared.words.WordPart.TheVariants.{Charset, Text}

-- a printable octet of US-ASCII that is no space
abbrev pub is_visible : ℕ → Bool
is_visible b = nat_le 33 b && nat_le b 126

abbrev pub is_one_of : List ℕ → ℕ → Bool
is_one_of octets b = list_any (λ c. c == b) octets

-- an octet of a charset's name, a token of RFC 2047, section 2: visible and none of ( ) < > @ , ; : " / [ ] ? . =
abbrev pub is_charset_octet : ℕ → Bool
is_charset_octet b = is_visible b &&
    not (is_one_of (40 ∷ 41 ∷ 60 ∷ 62 ∷ 64 ∷ 44 ∷ 59 ∷ 58 ∷ 34 ∷ 47 ∷ 91 ∷ 93 ∷ 63 ∷ 46 ∷ 61 ∷ []) b)

-- an octet of encoded text (RFC 2047, section 2): visible and no "?"
abbrev pub is_text_octet : ℕ → Bool
is_text_octet b = is_visible b && not (b == 63)

-- B, b, Q or q
abbrev pub is_encoding : ℕ → Bool
is_encoding b = is_one_of (66 ∷ 98 ∷ 81 ∷ 113 ∷ []) b

-- the three parts of an encoded word (RFC 2047, section 2)
pub record Word : Type 0 where
  pub charset : List ℕ
  pub encoding : ℕ
  pub text : List ℕ

-- an encoded word as it is written (RFC 2047, section 2): =?charset?encoding?text?=
abbrev pub spelling : Word → List ℕ
spelling w = 61 ∷ 63 ∷ (w.charset ++ 63 ∷ w.encoding ∷ 63 ∷ (w.text ++ 63 ∷ 61 ∷ []))

-- the parts are those of an encoded word
pub record IsWord (w : Word) : Type 0 where
  pub some_charset : 0 < length w.charset
  pub charset : list_all is_charset_octet w.charset ≡ true
  pub encoding : is_encoding w.encoding ≡ true
  pub some_text : 0 < length w.text
  pub text : list_all is_text_octet w.text ≡ true

-- whether a word may stand directly after the octet: a blank or "(" (RFC 2047, section 5)
abbrev pub precedes : ℕ → Bool
precedes b = is_blank b || (b == 40)

-- whether the text may follow a word: it is empty, or begins with a blank or ")" (RFC 2047, section 5)
abbrev pub can_follow : List ℕ → Bool
can_follow [] = true
can_follow (b ∷ bs) = is_blank b || (b == 41)

-- the next word, computed: the parts of a word at the front of a text, by the octets there

abbrev pub opens : List ℕ → Bool
opens [] = false
opens (a ∷ []) = false
opens (a ∷ b ∷ bs) = (a == 61) && (b == 63)

abbrev pub closes : List ℕ → Bool
closes [] = false
closes (a ∷ []) = false
closes (a ∷ b ∷ bs) = (a == 63) && (b == 61)

abbrev pub names_encoding : List ℕ → Bool
names_encoding [] = false
names_encoding (a ∷ []) = false
names_encoding (a ∷ b ∷ []) = false
names_encoding (a ∷ b ∷ c ∷ bs) = (a == 63) && is_encoding b && (c == 63)

-- the word at the front, and the rest
unfoldable pub word_at : List ℕ → Option (Word × List ℕ)
word_at bs =
    let opened = drop 2 bs in
    let charset = take_while is_charset_octet opened in
    let encoded = drop (length charset) opened in
    let rest = drop 3 encoded in
    let text = take_while is_text_octet rest in
    let closed = drop (length text) rest in
    if opens bs && nat_lt 0 (length charset) && names_encoding encoded && nat_lt 0 (length text) && closes closed then Some (record { charset = charset; encoding = slice_index encoded 1; text = text }, drop 2 closed) else None

abbrev pub if_followed : Option (Word × List ℕ) → Option (Word × List ℕ)
if_followed None = None
if_followed (Some w) = if can_follow w.1 then Some w else None

-- the same where the rest may follow a word
abbrev pub followed_word_at : List ℕ → Option (Word × List ℕ)
followed_word_at bs = if_followed (word_at bs)

abbrev pub or_later : Option (Word × List ℕ) → ℕ → Option (List ℕ × Word × List ℕ) → Option (List ℕ × Word × List ℕ)
or_later (Some w) b more = Some ([], w.0, w.1)
or_later None b more = option_map (λ f. (b ∷ f.0, f.1, f.2)) more

-- the gap before the first standing word, that word, and the rest; the flag says whether a word may stand at the text's
-- start
unfoldable pub first_word : Bool → List ℕ → Option (List ℕ × Word × List ℕ)
first_word start [] = None
first_word start (b ∷ bs) = or_later (if start then followed_word_at (b ∷ bs) else None) b (first_word (precedes b) bs)

-- an octet of a charset's name, or of encoded text
abbrev pub is_part_octet : WordPart → ℕ → Bool
is_part_octet Charset = is_charset_octet
is_part_octet Text = is_text_octet

-- the first octet is one of the part's, and this is the rest
abbrev pub IsPartOctet : WordPart → List ℕ → List ℕ → Type 0
IsPartOctet part text following = (b : ℕ) × (is_part_octet part b ≡ true) × IsFirstOctet text b following

abbrev pub begins_with_pair : ℕ → ℕ → List ℕ → Bool
begins_with_pair first second [] = false
begins_with_pair first second (a ∷ []) = false
begins_with_pair first second (a ∷ b ∷ bs) = (a == first) && (b == second)
