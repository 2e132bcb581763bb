-- What an encoded word means, computed (RFC 2047, sections 3 and 4). `Meaning` defines the same without computing it.
use Rattle.std.specs.Prelude.{◌≡◌, ℕ, ◌+◌, ◌-◌, ◌*◌, Bool, true, false, List, [], ◌∷◌, ◌++◌, Option, Some, None, option_map, option_and_then, nat_le, ◌==◌, ◌&&◌, if◌then◌else◌}
use Rattle.std.specs.Result.{result_ok}
use Rattle.std.specs.Char.{to_ascii_lowercase}
use Rattle.base64.specs.GeneralPurpose.{decode_of}
use Rattle.base64.specs.Engines.{standard}
use Rattle.mail_words.specs.Words.{Word}
use Rattle.mail_words.specs.Charsets.{charset_named, text_in}
use Rattle.mail_words.specs.declared.quoted.Place.{Place}
use Rattle.mail_words.specs.declared.quoted.Place.TheVariants.{Plain, Escape, Digit}

infixl 10 ◌>>=◌
abbrev pub ◌>>=◌ : {A B : Type 0} → Option A → (A → Option B) → Option B
o >>= f = option_and_then f o

-- the number of a hexadecimal digit of either case
abbrev pub hex_value : ℕ → Option ℕ
hex_value b =
    if nat_le 48 b && nat_le b 57 then Some (b - 48)
    else if nat_le 65 b && nat_le b 70 then Some (b - 55)
    else if nat_le 97 b && nat_le b 102 then Some (b - 87)
    else None

-- the octets of Q text (RFC 2047, section 4.2): "_" is a space, "=" and two hexadecimal digits are the octet of that
-- number, another "=" is bad, and another octet is itself
unfoldable pub q_octets : Place → List ℕ → Option (List ℕ)
q_octets Plain [] = Some []
q_octets Escape [] = None
q_octets (Digit high) [] = None
q_octets Plain (b ∷ bs) = if b == 61 then q_octets Escape bs
    else option_map (λ more. (if b == 95 then 32 else b) ∷ more) (q_octets Plain bs)
q_octets Escape (b ∷ bs) = hex_value b >>= λ high. q_octets (Digit high) bs
q_octets (Digit high) (b ∷ bs) = hex_value b >>= λ low. option_map (λ more. (high * 16 + low) ∷
    more) (q_octets Plain bs)

-- the octets of B text (RFC 2047, section 4.1), which decodes to them
abbrev pub b_octets : List ℕ → Option (List ℕ)
b_octets text = result_ok (decode_of standard text)

abbrev pub octets_of : Word → Option (List ℕ)
octets_of w = if to_ascii_lowercase w.encoding == 98 then b_octets w.text else q_octets Plain w.text

-- the text of a good word; another word has none
unfoldable pub text_of : Word → Option (List ℕ)
text_of w = charset_named w.charset >>= λ charset. octets_of w >>= text_in charset

-- a text, if there is one, is appended to the old text; if there is none, anything may be appended
abbrev pub IsAppended : Bool → List ℕ → Option (List ℕ) → List ℕ → Type 0
IsAppended true old (Some text) new = new ≡ old ++ text
IsAppended true old None new = ⊥
IsAppended false old (Some text) new = ⊥
IsAppended false old None new = (more : List ℕ) × (new ≡ old ++ more)
