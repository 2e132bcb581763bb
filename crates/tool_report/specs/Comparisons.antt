-- Places in a list.
use Rattle.std.specs.Prelude.{ℕ, suc, List, [], ◌∷◌, Bool, if◌then◌else◌}

-- the places at which a test holds, where the first element has this place
abbrev pub places_where : {X : Type 0} → (X → Bool) → ℕ → List X → List ℕ
places_where test n [] = []
places_where test n (x ∷ xs) = if test x then n ∷ places_where test (suc n) xs else places_where test (suc n) xs
