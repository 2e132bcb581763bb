-- A message that is fed in pieces.
use Rattle.std.proofs.Common.{◌≡◌, ℕ, List, ◌++◌}
use Rattle.mail_head.specs.Pieces.{Reader, reader_of}

-- the reader was fed what comes before the rest of a message
pub record IsFed (message rest : List ℕ) (r : Reader) : Type 0 where
  pub before : List ℕ
  pub joined : before ++ rest ≡ message
  pub reader : r ≡ reader_of before
