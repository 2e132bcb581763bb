-- Texts that are put together from pieces.
use Rattle.std.specs.Prelude.{ℕ, List, [], ◌∷◌, ◌++◌}

-- the pieces after a text, one after the other
abbrev pub with_pieces : List ℕ → List (List ℕ) → List ℕ
with_pieces text [] = text
with_pieces text (p ∷ ps) = with_pieces (text ++ p) ps

abbrev pub joined_of : List (List ℕ) → List ℕ
joined_of ps = with_pieces [] ps
