-- What a run can learn about a message, and about the plan that it is filed by.
use Rattle.std.specs.Prelude.{ℕ, List, Bool}
use Rattle.sieve_meaning.specs.Words.{same_word}

-- a header field (RFC 5322, section 2.2): its name, and its value with folding and encoded words undone
pub record Field : Type 0 where
  pub name : List ℕ
  pub value : List ℕ

pub record Facts : Type 0 where
  -- the length of the message in octets, as submitted
  pub size : ℕ
  -- the header fields in the order of the message
  pub fields : List Field
  -- whether a path is an open class
  pub is_open : List ℕ → Bool

-- names of header fields ignore ASCII case (RFC 5228, section 2.4.2.2)
abbrev pub is_named : List ℕ → Field → Bool
is_named name f = same_word f.name name
