-- The definitions on worked rows.
use Rattle.std.proofs.Common.{◌≡◌, ℕ, List, [], ◌∷◌, map, codes, Option, Some, None, refl}
use Rattle.session_words.specs.Words.{digits_up_to, number_up_to}
use Rattle.command_lines.specs.Sizes.{size_typed}

-- each word, and the size that it is
abbrev sizes : List (List ℕ × Option ℕ)
sizes =
    (codes "32M", Some 33554432) ∷
    (codes "1G", Some 1073741824) ∷
    (codes "1M", Some 1048576) ∷
    (codes "1048576", Some 1048576) ∷
    (codes "1048575", None) ∷
    (codes "0M", None) ∷
    (codes "1024G", Some 1099511627776) ∷
    (codes "1025G", None) ∷
    (codes "032M", None) ∷
    (codes "M", None) ∷
    (codes "", None) ∷
    (codes "32m", None) ∷
    (codes "32MB", None) ∷
    []

sizes_are : map (λ r. size_typed r.0) sizes ≡ map (λ r. r.1) sizes
unfolding number_up_to digits_up_to
sizes_are = refl
