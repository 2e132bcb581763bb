-- The names of new messages.
use Rattle.std.specs.Prelude.{ℕ, Bool, true, not, ◌==◌, List, [], ◌∷◌, if◌then◌else◌}

-- a file in `new` is a message, unless its name begins with a dot
abbrev pub is_message : (name : List ℕ) → Bool
is_message [] = true
is_message (c ∷ cs) = not (c == 46)

abbrev pub if_message : (name : List ℕ) → List (List ℕ)
if_message name = if is_message name then name ∷ [] else []
