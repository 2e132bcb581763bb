-- Fields behind references.
use Rattle.std.proofs.Common.{◌≡◌, ◌||◌, ◌∷◌, [], refl, ap, ℕ, Bool, List, map}
use Rattle.std.specs.Borrow.{Bor}
use Rattle.std.specs.List.{list_any}
use Rattle.cli_texts.specs.Rows.{has_semicolon}

pub any_semicolon : (fs : List (Bor (List ℕ))) → list_any has_semicolon (map (λ f. f.now) fs) ≡ list_any (λ f. has_semicolon f.now) fs
any_semicolon [] = refl
any_semicolon (f ∷ fs) = ap (λ (b : Bool). has_semicolon f.now || b) (any_semicolon fs)
