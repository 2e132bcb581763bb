-- A case whose message comes in pieces.
use Rattle.std.specs.Prelude.{ℕ, List}
use Rattle.mail_head.specs.Pieces.{Reader, reader_of}

-- the reader of the header, and the paths that are open
pub record Arrival : Type 0 where
  pub reader : Reader
  pub paths : List (List ℕ)

-- this message was fed so far
abbrev pub pieces_view : List ℕ → List (List ℕ) → Arrival
pieces_view message paths = record { reader = reader_of message; paths = paths }
