-- The octets that readers and writers know.
use Rattle.std.specs.Prelude.{ℕ, List, [], Option, unwrap_or}
use Rattle.std.specs.Io.KnownBytes.{prepend_known}
use Rattle.session_protocol.specs.declared.input.Input.{Input}

-- the octets that a reader has left, or that a writer has taken, where they are known
abbrev pub known : Option (List ℕ) → List ℕ
known octets = unwrap_or octets []

-- the octets that were read ahead, and then those of the reader
abbrev pub octets_left : {R : Type 0} → (R → Option (List ℕ)) → Input R → Option (List ℕ)
octets_left remaining s = prepend_known s.ahead (remaining s.inner)
