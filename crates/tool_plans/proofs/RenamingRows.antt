-- Renamings on worked rows.
use Rattle.std.proofs.Common.{◌≡◌, [], ◌∷◌, codes, Some, None, refl}
use Rattle.tool_plans.specs.Renamings.{likely_renaming}

one_went_and_one_came : likely_renaming (codes "tax" ∷ []) (codes "taxes" ∷ []) ≡ Some (codes "tax", codes "taxes")
one_went_and_one_came = refl

none_came : likely_renaming (codes "tax" ∷ []) [] ≡ None
none_came = refl

two_went : likely_renaming (codes "tax" ∷ codes "vat" ∷ []) (codes "taxes" ∷ []) ≡ None
two_went = refl
