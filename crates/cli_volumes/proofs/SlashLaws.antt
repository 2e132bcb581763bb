-- The slash at the end of a folder's path.
use Rattle.std.proofs.Common.{◌≡◌, ℕ, List, [], ◌∷◌, ◌++◌, refl, ap, arith}
use Rattle.std.proofs.lemmas.Bool.Decides.{nat_tests}
use Rattle.cli_volumes.specs.Names.{without_slash}

pub slash_off : (front : List ℕ) → without_slash (front ++ 47 ∷ []) ≡ front
slash_off [] = refl
slash_off (c ∷ []) = refl
slash_off (c ∷ d ∷ cs) = ap (λ l. c ∷ l) (slash_off (d ∷ cs))

pub no_slash : (cs : List ℕ) → ((front : List ℕ) → cs ≡ front ++ 47 ∷ [] → ⊥) → without_slash cs ≡ cs
no_slash [] h = refl
no_slash (c ∷ []) h = let k : c ≡ 47 → ⊥ = λ e. h [] (ap (λ x. x ∷ []) e) in grind (arith, nat_tests)
no_slash (c ∷ d ∷ cs) h = ap (λ l. c ∷ l) (no_slash (d ∷ cs) (λ front e. h (c ∷ front) (ap (λ l. c ∷ l) e)))
