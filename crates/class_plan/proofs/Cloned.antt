-- A copied map shows the same classes.
use Rattle.std.proofs.Common.{◌≡◌, ℕ, List, [], ◌∷◌, refl, ap, ◌∙◌}
use Rattle.std.specs.List.{AllZip}
use Rattle.class_plan.specs.Fields.{MapEntry, row, rows}

pub same_items : (xs ys : List ℕ) → AllZip (λ x y. y ≡ x) xs ys → ys ≡ xs
same_items [] [] h = refl
same_items [] (y ∷ ys) h = absurd h
same_items (x ∷ xs) [] h = absurd h
same_items (x ∷ xs) (y ∷ ys) h = rw (h.0, same_items xs ys h.1)

pub rows-clone : (R : MapEntry → MapEntry → Type 0) → ((e f : MapEntry) → R e f → row f ≡ row e)
    → (es fs : List MapEntry) → AllZip R es fs → rows fs ≡ rows es
rows-clone R same [] [] h = refl
rows-clone R same [] (f ∷ fs) h = absurd h
rows-clone R same (e ∷ es) [] h = absurd h
rows-clone R same (e ∷ es) (f ∷ fs) h = ap (λ r. r ∷ rows fs) (same e f h.0) ∙ ap (λ rs. row e ∷ rs) (rows-clone R same es fs h.1)
