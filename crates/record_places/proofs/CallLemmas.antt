-- Calls that follow on others.
use Rattle.std.proofs.Common.{◌++◌, [], ◌∷◌, List, ℕ, true, subst, ap, inl, inr, append_assoc}
use Rattle.record_places.specs.Calls.{Call, open_store, Makes, MayMake, OpensStore}

-- a file is perhaps made for its owner, and then the store is opened
pub opens_after : {F : Type 0} (made : F → List Call → Type 0) (first ready opened : F) (path : List ℕ) →
    Makes made first ready (MayMake path) →
    ((done : List Call) → made ready done → made opened (done ++ (open_store path true ∷ []))) →
    Makes made first opened (OpensStore path)
opens_after made first ready opened path makes opens done was =
    let it = makes done was in
    let last : List Call = open_store path true ∷ [] in (
      it.0 ++ last,
      elim it.1 [
        | inl none ↦ inl (ap (λ calls. calls ++ last) none)
        | inr one ↦ inr (ap (λ calls. calls ++ last) one)
      ],
      subst (made opened) (append_assoc done it.0 last) (opens (done ++ it.0) it.2),
    )
