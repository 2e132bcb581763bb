-- What a piece adds to the header of the octets before it.
use Rattle.std.specs.Prelude.{◌≡◌, ℕ, ◌-◌, ◌≤◌, List, [], ◌∷◌, ◌++◌, length, take}
use Rattle.mail_head.specs.Pieces.{Reader, header_octets, reader_of}
use Rattle.mail_head.specs.declared.parts.HeaderPart.{HeaderPart}
use Rattle.mail_head.specs.declared.parts.HeaderPart.TheVariants.{Front, LessCr}

-- the first n octets of the piece belong to the header, or the header loses the CR that it ended with
abbrev pub IsPart : List ℕ → List ℕ → HeaderPart → Type 0
IsPart kept piece (Front n) = (n ≤ length piece) ×
    (header_octets kept ≡ kept → header_octets (kept ++ piece) ≡ kept ++ take n piece)
IsPart kept piece LessCr = (kept ≡ take (length kept - 1) kept ++ 13 ∷ []) ×
    (header_octets kept ≡ kept → header_octets (kept ++ piece) ≡ take (length kept - 1) kept)

-- the header with what a piece adds to it
abbrev pub with_part : List ℕ → List ℕ → HeaderPart → List ℕ
with_part kept piece (Front n) = kept ++ take n piece
with_part kept piece LessCr = take (length kept - 1) kept

-- the octets of the piece that the header gains
abbrev pub gain : List ℕ → HeaderPart → List ℕ
gain piece (Front n) = take n piece
gain piece LessCr = []

-- the part has no more octets than the piece
abbrev pub IsOfPiece : List ℕ → HeaderPart → Type 0
IsOfPiece piece (Front n) = n ≤ length piece
IsOfPiece piece LessCr = Unit {0}

-- what a piece adds to the header that a reader keeps, whatever message the reader was fed
pub record IsNextPart (reader : Reader) (piece : List ℕ) (part : HeaderPart) : Type 0 where
  pub of_piece : IsOfPiece piece part
  pub next : (message : List ℕ) → reader ≡ reader_of message →
      with_part reader.kept piece part ≡ header_octets (message ++ piece)
