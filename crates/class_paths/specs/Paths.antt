-- Sets of paths: lists in byte order, each path once.
use Rattle.std.specs.Prelude.{ℕ, List, [], ◌∷◌}
use Rattle.std.specs.Ordering.{nat_cmp, match_ordering}
use Rattle.std.specs.Cmp.Lexicographic.{slice_cmp}
use Rattle.std.specs.List.Sorted.{IsStrictlySortedBy}

abbrev pub Paths : Type 0
Paths = List (List ℕ)

-- the paths are in byte order, each once
abbrev pub IsIncreasing : Paths → Type 0
IsIncreasing = IsStrictlySortedBy (slice_cmp nat_cmp)

-- the set with a path added; a path that it has stays once
abbrev pub insert_path : List ℕ → Paths → Paths
insert_path p [] = p ∷ []
insert_path p (q ∷ qs) = match_ordering (slice_cmp nat_cmp p q) (p ∷ q ∷ qs) (q ∷ qs) (q ∷ insert_path p qs)
