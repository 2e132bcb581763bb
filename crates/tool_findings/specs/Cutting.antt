-- How the tokens of a script are cut into the fronts of its commands.
use Rattle.std.specs.Prelude.{◌≡◌, ◌≤◌, ℕ, List, [], ◌++◌, Option, Some, None, map, take, drop}
use Rattle.sieve_syntax.specs.declared.token.Token.{Token}
use Rattle.tool_findings.specs.declared.fronts.Cutting.{Cutting}
use Rattle.tool_findings.specs.Commands.{fronts_from, own_tokens}

-- the number of the first token that is in no front yet
abbrev pub first_of : Option (ℕ × ℕ) → ℕ → ℕ
first_of None n = n
first_of (Some first) n = first.0

-- the fronts so far, and those of what is begun and of the rest, are all
pub record IsCut (ts : List Token) (n : ℕ) (c : Cutting) : Type 0 where
  pub begun : first_of c.first n ≤ n
  pub whole : map (own_tokens ts) c.fronts.items ++ fronts_from (drop (first_of c.first n) (take n ts)) (drop n ts) ≡ fronts_from [] ts
