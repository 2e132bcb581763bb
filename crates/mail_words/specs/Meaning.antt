-- What an encoded word means, defined without computing it (RFC 2047, sections 3 and 4).
use Rattle.std.specs.Prelude.{◌≡◌, ◌⊎◌, ℕ, ◌+◌, ◌*◌, List, [], ◌∷◌, Some, true, ◌↔◌}
use Rattle.base64.specs.GeneralPurpose.{IsBytes, encode_of}
use Rattle.base64.specs.Engines.{standard}
use Rattle.mail_words.specs.Words.{Word, IsWord, is_one_of}
use Rattle.mail_words.specs.Charsets.{charset_named, text_in}
use Rattle.mail_words.specs.Decoding.{hex_value, text_of}
use Rattle.mail_words.specs.declared.charset.Charset.{Charset}

-- B text (RFC 2047, section 4.1) encodes the octets, in the standard alphabet and with padding (RFC 4648, section 4)
abbrev pub IsBText : List ℕ → List ℕ → Type 0
IsBText text octets = IsBytes octets × (text ≡ encode_of standard octets)

-- Q text (RFC 2047, section 4.2) and its octets: "_" is a space, "=" with two hexadecimal digits of either case is the
-- octet of that number, and each other octet but "=" is itself
pub data QText : List ℕ → List ℕ → Type 0 where
  q_end : QText [] []
  q_itself : (b : ℕ) (text octets : List ℕ) → (b ≡ 61 → ⊥) → (b ≡ 95 → ⊥) → QText text octets →
      QText (b ∷ text) (b ∷ octets)
  q_space : (text octets : List ℕ) → QText text octets → QText (95 ∷ text) (32 ∷ octets)
  q_escape : (first second high low : ℕ) (text octets : List ℕ) → hex_value first ≡ Some high →
      hex_value second ≡ Some low → QText text octets → QText (61 ∷ first ∷ second ∷ text) ((high * 16 + low) ∷ octets)

-- the text encodes the octets under the letter B, b, Q or q
abbrev pub IsEncoding : ℕ → List ℕ → List ℕ → Type 0
IsEncoding letter text octets = ((is_one_of (66 ∷ 98 ∷ []) letter ≡ true) × IsBText text octets) ⊎
    ((is_one_of (81 ∷ 113 ∷ []) letter ≡ true) × QText text octets)

-- a word means a text: its charset is one that is read, it encodes some octets, and these have that text in the charset
pub record Means (w : Word) (text : List ℕ) : Type 0 where
  pub charset : Charset
  pub octets : List ℕ
  pub named : charset_named w.charset ≡ Some charset
  pub encoded : IsEncoding w.encoding w.text octets
  pub read : text_in charset octets ≡ Some text

-- a good word is one that means a text
abbrev pub IsGood : Word → Type 0
IsGood w = (text : List ℕ) × Means w text

-- a word means at most one text, and that is the one computed
abbrev pub MeaningLaw : Type 0
MeaningLaw = (w : Word) (text : List ℕ) → IsWord w → (text_of w ≡ Some text) ↔ Means w text
