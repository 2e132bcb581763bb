-- Lists in an order.
use Rattle.std.specs.Prelude.{List, [], ◌∷◌, ⊤, if◌then◌else◌}
use Rattle.std.specs.List.{AllByRecursion}
use Rattle.std.specs.declared.cmp.Ordering.{Ordering}
use Rattle.std.specs.Ordering.{is_gt}

-- each element is below each later one
abbrev pub IsAscending : {X : Type 0} → (X → X → Type 0) → List X → Type 0
IsAscending R [] = ⊤
IsAscending R (x ∷ xs) = AllByRecursion (R x) xs × IsAscending R xs

-- before the first element that is not below it
abbrev pub insert_sorted : {X : Type 0} → (X → X → Ordering) → X → List X → List X
insert_sorted cmp new [] = new ∷ []
insert_sorted cmp new (x ∷ xs) = if is_gt (cmp new x) then x ∷ insert_sorted cmp new xs else new ∷ x ∷ xs

-- in ascending order; elements that compare as equal keep theirs
abbrev pub sort_by : {X : Type 0} → (X → X → Ordering) → List X → List X
sort_by cmp [] = []
sort_by cmp (x ∷ xs) = insert_sorted cmp x (sort_by cmp xs)
