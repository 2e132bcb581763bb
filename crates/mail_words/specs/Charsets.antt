-- The charsets of encoded words (RFC 2047, section 3), and what octets mean in them.
use Rattle.std.specs.Prelude.{◌≡◌, ℕ, List, [], ◌∷◌, ◌++◌, map, Bool, true, false, Option, Some, None, nat_lt, ◌||◌, codes, if◌then◌else◌}
use Rattle.std.specs.List.{list_any, list_all}
use Rattle.std.specs.Char.{to_ascii_lowercase}
use Rattle.std.specs.Str.{bytes_eq, is_utf8, encode_utf8_all}
use Rattle.mail_words.specs.declared.charset.Charset.{Charset}
use Rattle.mail_words.specs.declared.charset.Charset.TheVariants.{Ascii, Latin1, Utf8}

-- names are equal in any case of their letters (RFC 2047, section 2)
abbrev pub is_named : List ℕ → List ℕ → Bool
is_named name other = bytes_eq (map to_ascii_lowercase name) other

-- the parts of ISO 8859 of which only the octets below 128 are read, as US-ASCII
abbrev pub ascii_parts : List (List ℕ)
ascii_parts = codes "2" ∷ codes "3" ∷ codes "4" ∷ codes "5" ∷ codes "6" ∷ codes "7" ∷ codes "8" ∷ codes "9" ∷
    codes "10" ∷ codes "11" ∷ codes "12" ∷ codes "13" ∷ codes "14" ∷ codes "15" ∷ codes "16" ∷ []

-- the charset of a name, if it is one of those that are read
unfoldable pub charset_named : List ℕ → Option Charset
charset_named name =
    if is_named name (codes "utf-8") then Some Utf8
    else if is_named name (codes "iso-8859-1") then Some Latin1
    else if is_named name (codes "us-ascii") ||
    list_any (λ part. is_named name (codes "iso-8859-" ++ part)) ascii_parts then Some Ascii
    else None

-- the text of octets in a charset, in UTF-8, if each octet has a meaning: US-ASCII and UTF-8 stay as they are, and in
-- ISO 8859-1 each octet is the character of its number
unfoldable pub text_in : Charset → List ℕ → Option (List ℕ)
text_in Ascii octets = if list_all (λ b. nat_lt b 128) octets then Some octets else None
text_in Utf8 octets = if is_utf8 octets then Some octets else None
text_in Latin1 octets = Some (encode_utf8_all octets)

-- octets of the charset as they are written in UTF-8, if they have a meaning
abbrev pub in_utf8 : Charset → List ℕ → List ℕ
in_utf8 Ascii octets = octets
in_utf8 Utf8 octets = octets
in_utf8 Latin1 octets = encode_utf8_all octets

-- whether the octets that were so written have a meaning in the charset
abbrev pub is_text_in : Charset → List ℕ → Bool
is_text_in Ascii written = list_all (λ b. nat_lt b 128) written
is_text_in Utf8 written = is_utf8 written
is_text_in Latin1 written = true

-- octets, if there are any, are appended to the old text as they are written; if there are none, anything may be
-- appended
abbrev pub ArePut : Bool → Charset → List ℕ → Option (List ℕ) → List ℕ → Type 0
ArePut true charset old (Some octets) new = new ≡ old ++ in_utf8 charset octets
ArePut true charset old None new = ⊥
ArePut false charset old (Some octets) new = ⊥
ArePut false charset old None new = (more : List ℕ) × (new ≡ old ++ more)
