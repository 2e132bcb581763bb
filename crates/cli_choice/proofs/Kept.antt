-- What is kept of one entry and of those after it.
use Rattle.std.proofs.Common.{◌≡◌, Bool, true, false, cond, List, ◌∷◌, ◌++◌, filter, refl, ap, ◌∙◌}
use Rattle.std.proofs.lemmas.List.{append_assoc}
use Rattle.record_choice.specs.Entries.{RecordEntry}
use Rattle.record_choice.specs.Walks.{kept_if}

kept_front : (b : Bool) (e : RecordEntry) (es : List RecordEntry) → kept_if b e ++ es ≡ cond b (e ∷ es) es
kept_front true e es = refl
kept_front false e es = refl

-- what is kept so far, then of the next entry, then of the rest
pub kept_next : (p : RecordEntry → Bool) (b : Bool) (e : RecordEntry) (so_far more rest : List RecordEntry)
    → more ≡ so_far ++ kept_if b e → b ≡ p e → more ++ filter p rest ≡ so_far ++ filter p (e ∷ rest)
kept_next p b e so_far more rest added same =
    ap (λ l. l ++ filter p rest) added ∙ append_assoc so_far (kept_if b e) (filter p rest)
    ∙ ap (λ l. so_far ++ l) (ap (λ c. kept_if c e ++ filter p rest) same ∙ kept_front (p e) e (filter p rest))
