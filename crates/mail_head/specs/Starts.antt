-- Where fields begin in the octets of a header.
use Rattle.std.specs.Prelude.{ℕ, ◌<◌, ◌≤◌, List, [], length, drop, slice_index_or}
use Rattle.mail_head.specs.Fields.{fields_of}

-- the field that begins at this offset
abbrev pub field_from : List ℕ → ℕ → List ℕ × List ℕ
field_from octets start = slice_index_or (fields_of (drop start octets)) 0 ([], [])

-- the offset is within the octets, and a field begins there or later
pub record IsFieldStart (octets : List ℕ) (start : ℕ) : Type 0 where
  pub within : start ≤ length octets
  pub some : 0 < length (fields_of (drop start octets))
