-- The words of a command line, and the names and numbers that they are.
use Rattle.std.specs.Prelude.{ℕ, List, Bool, ◌&&◌, ◌==◌, nat_lt, nat_le, if◌then◌else◌, Option, Some, None, length, slice_index}
use Rattle.std.specs.Char.{is_ascii_digit}
use Rattle.std.specs.List.{slice_split, list_all}
use Rattle.std.specs.Str.Parse.{digits_value}

-- words are separated by single spaces, so that between two spaces there is an empty word
abbrev pub words_of : List ℕ → List (List ℕ)
words_of line = slice_split (λ o. o == 32) line

-- one digit or more
abbrev pub are_digits : List ℕ → Bool
are_digits word = nat_lt 0 (length word) && list_all is_ascii_digit word

-- the number that digits spell, with leading zeros or without, where it is not above the greatest
unfoldable pub digits_up_to : (greatest : ℕ) → List ℕ → Option ℕ
digits_up_to greatest word =
    if are_digits word && nat_le (digits_value 10 word) greatest then Some (digits_value 10 word) else None

-- a zero before another octet
abbrev pub has_leading_zero : List ℕ → Bool
has_leading_zero word = nat_lt 1 (length word) && (slice_index word 0 == 48)

-- the number of a decimal word without a leading zero, where it is not above the greatest
unfoldable pub number_up_to : (greatest : ℕ) → List ℕ → Option ℕ
number_up_to greatest word = if has_leading_zero word then None else digits_up_to greatest word

-- numbers of records, tickets and moments are at most 2^64 - 1
abbrev pub greatest_number : ℕ
greatest_number = 18446744073709551615

-- lengths of payloads, in octets
abbrev pub greatest_length : ℕ
greatest_length = 4294967295

-- a name is 1 to 64 octets from 33 to 126
abbrev pub is_name_octet : ℕ → Bool
is_name_octet o = nat_le 33 o && nat_le o 126

abbrev pub is_name : List ℕ → Bool
is_name word = nat_lt 0 (length word) && nat_le (length word) 64 && list_all is_name_octet word
