-- A message that comes in pieces, and what a reader keeps of it.
use Rattle.std.specs.Prelude.{ℕ, ◌-◌, Bool, false, List, length, take, nat_lt, not, slice_index, ◌==◌, ◌&&◌, ◌||◌}
use Rattle.std.specs.List.{concat}
use Rattle.mail_head.specs.Fields.{fields_of}
use Rattle.mail_head.specs.Lines.{header_of}

-- the octets of the header of a text: those of its lines, with their ends
abbrev pub header_octets : List ℕ → List ℕ
header_octets text = concat (header_of text)

-- a reader: the octets that it keeps, the number of octets that it was fed, and whether it refuses
pub record Reader : Type 0 where
  pub kept : List ℕ
  pub size : ℕ
  pub refuses : Bool

-- the reader that was fed a message: it keeps the header of the message and nothing else
abbrev pub reader_of : List ℕ → Reader
reader_of message = record { kept = header_octets message; size = length message; refuses = false }

-- a header that owns its octets: the fields, the number of the message's octets, and the octets that it owns
pub record OwnedHeader : Type 0 where
  pub fields : List (List ℕ × List ℕ)
  pub size : ℕ
  pub octets : List ℕ

-- the header of a message, with the octets that it owns
abbrev pub owned_header_of : List ℕ → OwnedHeader
owned_header_of message = record { fields = fields_of message; size = length message; octets = header_octets message }

-- a text that is empty or ends in an LF
abbrev pub at_line_start : List ℕ → Bool
at_line_start bs = not (nat_lt 0 (length bs)) || (slice_index bs (length bs - 1) == 10)

-- a text whose last line is one CR so far
abbrev pub ends_in_lone_cr : List ℕ → Bool
ends_in_lone_cr bs = (nat_lt 0 (length bs) && (slice_index bs (length bs - 1) == 13)) &&
    at_line_start (take (length bs - 1) bs)
