-- Texts with escapes.
use Rattle.std.specs.Prelude.{ℕ, ◌+◌, ◌-◌, ◌*◌, List, [], ◌∷◌, Bool, ◌&&◌, ◌==◌, nat_le, if◌then◌else◌}

-- whether an octet is in a range
abbrev pub is_between : (least most octet : ℕ) → Bool
is_between least most octet = nat_le least octet && nat_le octet most

-- the value of a hexadecimal digit, and 0 for another octet
abbrev pub hex_value : ℕ → ℕ
hex_value b =
    if is_between 48 57 b then b - 48
    else if is_between 65 70 b then b - 55
    else if is_between 97 102 b then b - 87
    else 0

-- what an octet after a backslash means: `n`, `r` and `s` are LF, CR and a space, and any other octet is itself
abbrev pub escape_meaning : ℕ → ℕ
escape_meaning b = if b == 110 then 10 else if b == 114 then 13 else if b == 115 then 32 else b

abbrev mutual
  -- the octets that a text with escapes means
  pub unescaped : List ℕ → List ℕ
  unescaped [] = []
  unescaped (b ∷ bs) = if b == 92 then after_backslash bs else b ∷ unescaped bs

  -- and a text after a backslash
  pub after_backslash : List ℕ → List ℕ
  after_backslash [] = []
  after_backslash (b ∷ bs) = if b == 120 then after_x bs else escape_meaning b ∷ unescaped bs

  -- and after `\x`: two digits
  pub after_x : List ℕ → List ℕ
  after_x [] = []
  after_x (high ∷ []) = []
  after_x (high ∷ low ∷ bs) = (hex_value high * 16 + hex_value low) ∷ unescaped bs
