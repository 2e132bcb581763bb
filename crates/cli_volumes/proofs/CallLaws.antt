-- Calls that are made one after the other.
use Rattle.std.proofs.Common.{List, [], ◌++◌, sym, subst}
use Rattle.std.proofs.lemmas.List.{append-nil, append_assoc}
use Rattle.cli_volumes.specs.Finding.{Makes}

pub none_made : {F C : Type 0} (made : F → List C → Type 0) (a : F) → Makes made a a []
none_made {F} {C} made a done h = subst (λ (l : List C). made a l) (sym (append-nil done)) h

pub both_made : {F C : Type 0} (made : F → List C → Type 0) (a b c : F) (xs ys : List C) → Makes made a b xs → Makes made b c ys
    → Makes made a c (xs ++ ys)
both_made {F} {C} made a b c xs ys first second done h =
    subst (λ (l : List C). made c l) (append_assoc done xs ys) (second (done ++ xs) (first done h))
