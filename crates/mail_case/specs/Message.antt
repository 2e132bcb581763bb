-- The case of a message: what a run learns about it, and about the paths that are open.
use Rattle.std.specs.Prelude.{ℕ, List, Bool, map, length}
use Rattle.std.specs.List.{list_any}
use Rattle.std.specs.Str.{bytes_eq}
use Rattle.mail_head.specs.Fields.{fields_of}
use Rattle.mail_words.specs.Value.{value_of_body}
use Rattle.sieve_meaning.specs.Case.{Facts, Field}

-- a field (RFC 5322, section 2.2): its name, and the value of its body, with folding and encoded words undone
abbrev pub field_in : List ℕ × List ℕ → Field
field_in f = record { name = f.0; value = value_of_body f.1 }

-- the case of a message, where these paths are open: the octets of the message, and the fields of its header in order
abbrev pub case_of : List ℕ → (List ℕ → Bool) → Facts
case_of message is_open = record { size = length message; fields = map field_in (fields_of message); is_open = is_open }

-- whether a path is among some, octet for octet
abbrev pub is_among : List (List ℕ) → List ℕ → Bool
is_among paths path = list_any (bytes_eq path) paths
