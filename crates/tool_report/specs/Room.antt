-- How many octets a report counts for the fields that it says again beside a test.
use Rattle.std.specs.Prelude.{ℕ, ◌+◌, List, length, sum_by, option_map, unwrap_or, slice_get}
use Rattle.sieve_evaluator.specs.declared.case.BorrowedField.{BorrowedField}

-- those of its name and its value, and sixty-four more
abbrev pub octets_of : BorrowedField → ℕ
octets_of f = (64 + length f.name.now) + length f.value.items

-- those of the field at this place of a header, counted from 0
abbrev pub octets_in : (fields : List BorrowedField) → (place : ℕ) → ℕ
octets_in fields place = unwrap_or (option_map octets_of (slice_get fields place)) 0

-- those of the fields at these places
abbrev pub octets_at : (fields : List BorrowedField) → (places : List ℕ) → ℕ
octets_at fields places = sum_by (octets_in fields) places
