-- What has been written somewhere.
use Rattle.std.specs.Prelude.{List, [], ◌++◌}
use Rattle.std.proofs.Common.{subst, sym}
use Rattle.std.proofs.lemmas.List.{append_assoc, append-nil}

-- BETWEEN TWO MOMENTS these were written, in this order, and nothing else. `written` says which had been written at a moment.
abbrev pub Writes : {K X : Type 0} (written : K → List X → Type 0) (before after : K) (these : List X) → Type 0
Writes {X = X} written before after these = (done : List X) → written before done → written after (done ++ these)

pub nothing_written : {K X : Type 0} (written : K → List X → Type 0) (k : K) → Writes written k k []
nothing_written written k done had = subst (λ l. written k l) (sym (append-nil done)) had

pub more_written : {K X : Type 0} (written : K → List X → Type 0) (x y z : K) (one other : List X) → Writes written x y one
    → Writes written y z other → Writes written x z (one ++ other)
more_written written x y z one other first then done had =
    subst (λ l. written z l) (append_assoc done one other) (then (done ++ one) (first done had))
