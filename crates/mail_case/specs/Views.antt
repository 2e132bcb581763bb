-- Sets of paths as lists.
use Rattle.std.specs.Prelude.{ℕ, List, Bool, map, Vec}
use Rattle.std.specs.BTreeSet.{BTreeSet}
use Rattle.std.specs.declared.alloc.Global.{Global}
use Rattle.mail_case.specs.Message.{is_among}

-- the paths of a set, in byte order
abbrev pub paths_in : BTreeSet (Vec ℕ Global) → List (List ℕ)
paths_in s = map (λ v. v.items) s.keys

-- whether a path is in a set
abbrev pub is_in : BTreeSet (Vec ℕ Global) → List ℕ → Bool
is_in s = is_among (paths_in s)
