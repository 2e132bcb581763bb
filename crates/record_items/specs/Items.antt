-- The messages and the records of an archive.
use Rattle.std.specs.Prelude.{ℕ, Bool, List}

-- a stored message
pub record Message : Type 0 where
  pub number : ℕ
  pub body : List ℕ

-- a record of a message in the class of a path, captured on a day, which is counted from 1970-01-01
pub record Record : Type 0 where
  pub number : ℕ
  pub message : ℕ
  pub path : List ℕ
  pub day : ℕ
  pub destroyed : Bool
