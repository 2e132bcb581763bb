-- Path weights as the compiler computes them.
use Rattle.std.specs.Prelude.{ℕ, ◌+◌, ◌^◌, List, Option, Some, None, nat_lt, if◌then◌else◌}
use Rattle.sieve_meaning.specs.Meaning.{Library}
use Rattle.sieve_meaning.specs.Weight.{weight}
use Rattle.sieve_meaning.specs.Procedures.{Procedure}
use Rattle.filing_gen.specs.Procedures.{called_path, path_weights}

-- a weight, where it is below 2 ^ 32
abbrev pub known_path : ℕ → Option ℕ
known_path weight = if nat_lt weight (2 ^ 32) then Some weight else None

-- the path weight of a procedure, by the procedures after it
abbrev pub path_from : Library → (later : List Procedure) → Procedure → ℕ
path_from lib later p = weight (called_path lib later (path_weights lib later) p.left p.chain) p.script + 1
