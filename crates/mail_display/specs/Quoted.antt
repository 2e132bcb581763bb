-- What Q text encodes (RFC 2047, section 4.2).
use Rattle.std.specs.Prelude.{ℕ, ◌+◌, ◌-◌, ◌*◌, List, [], ◌∷◌, Option, Some, None, option_map, option_and_then, nat_le, ◌==◌, ◌&&◌, if◌then◌else◌}
use Rattle.mail_display.specs.declared.quoted.Place.{Place}
use Rattle.mail_display.specs.declared.quoted.Place.TheVariants.{Plain, Escape, Digit}

infixl 10 ◌>>=◌
abbrev pub ◌>>=◌ : {A B : Type 0} → Option A → (A → Option B) → Option B
o >>= f = option_and_then f o

-- the number of a hexadecimal digit of either case
abbrev pub hex_value : ℕ → Option ℕ
hex_value b =
    if nat_le 48 b && nat_le b 57 then Some (b - 48)
    else if nat_le 65 b && nat_le b 70 then Some (b - 55)
    else if nat_le 97 b && nat_le b 102 then Some (b - 87)
    else None

-- the octets of Q text: "_" is a space, "=" and two hexadecimal digits are the octet of that number, another "=" is
-- bad, and another octet is itself
unfoldable pub q_octets : Place → List ℕ → Option (List ℕ)
q_octets Plain [] = Some []
q_octets Escape [] = None
q_octets (Digit high) [] = None
q_octets Plain (b ∷ bs) = if b == 61 then q_octets Escape bs
    else option_map (λ more. (if b == 95 then 32 else b) ∷ more) (q_octets Plain bs)
q_octets Escape (b ∷ bs) = hex_value b >>= λ high. q_octets (Digit high) bs
q_octets (Digit high) (b ∷ bs) = hex_value b >>= λ low. option_map (λ more. (high * 16 + low) ∷
    more) (q_octets Plain bs)
