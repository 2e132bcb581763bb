-- The sizes that are typed.
use Rattle.std.specs.Prelude.{ℕ, ◌-◌, ◌*◌, ◌==◌, ◌&&◌, nat_lt, nat_le, Bool, if◌then◌else◌}
use Rattle.std.specs.Prelude.{List, length, take, slice_index, Option, Some, None}
use Rattle.session_words.specs.Words.{number_up_to}

-- the last octet of a word is this one
abbrev pub ends_in : ℕ → List ℕ → Bool
ends_in o word = nat_lt 0 (length word) && (slice_index word (length word - 1) == o)

abbrev pub without_last : List ℕ → List ℕ
without_last word = take (length word - 1) word

-- the octets that a unit stands for: M is a megabyte, and G a gigabyte; without one of these letters each octet counts
abbrev pub unit_in : List ℕ → ℕ
unit_in word = if ends_in 77 word then 1048576 else if ends_in 71 word then 1073741824 else 1

-- what stands before the unit
abbrev pub digits_in : List ℕ → List ℕ
digits_in word = if ends_in 77 word then without_last word else if ends_in 71 word then without_last word else word

-- so many octets, from 1M to 1024G
abbrev pub size_within : ℕ → Option ℕ
size_within octets = if nat_le 1048576 octets && nat_le octets 1099511627776 then Some octets else None

abbrev pub size_by : (unit : ℕ) → Option ℕ → Option ℕ
size_by unit None = None
size_by unit (Some n) = size_within (n * unit)

-- THE SIZE THAT A WORD IS, in octets: a decimal number without a leading zero, and perhaps a unit behind it
abbrev pub size_typed : List ℕ → Option ℕ
size_typed word = size_by (unit_in word) (number_up_to 1099511627776 (digits_in word))
