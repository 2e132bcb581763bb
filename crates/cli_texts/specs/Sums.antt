-- Sums as they are shown.
use Rattle.std.specs.Prelude.{ℕ, List}
use Rattle.sha2.specs.Sha256.{sha256}
use Rattle.hex.specs.Hex.{encode_lower}

-- the SHA-256 (FIPS 180-4) of octets, in hexadecimal digits
abbrev pub shown_sum : List ℕ → List ℕ
shown_sum octets = encode_lower (sha256 octets)

-- a sum in hexadecimal digits
abbrev pub digits_of_sum : List ℕ → List ℕ
digits_of_sum sum = encode_lower sum
