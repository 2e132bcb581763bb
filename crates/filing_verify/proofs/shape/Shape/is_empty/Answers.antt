use Rattle.std.proofs.Common.{◌≡◌, List, [], ◌∷◌, length, refl, sym, ◌∙◌, eq-eqb}
use Rattle.std.proofs.lemmas.Bool.{eqb-true}
use Rattle.std.proofs.lemmas.List.{nil_from_length}
use Rattle.filing_verify.specs.declared.kind.Kind.{Kind}
use Rattle.filing_verify.proofs.shape.Shape.is_empty.Goals as goal

entry : (ks : List Kind) → (length ks ≡ 0 → ⊥) → (top : Kind) × (rest : List Kind) × (ks ≡ top ∷ rest)
entry [] some = absurd (some refl)
entry (k ∷ ks) some = (k, ks, refl)

pub returns-clause-none : goal.returns-clause-none
returns-clause-none c = λ t. nil_from_length c.args.self.now (sym c.depth.ensures ∙ eqb-true c.depth.result 0 t)

pub returns-clause-some : goal.returns-clause-some
returns-clause-some c = λ f. entry c.args.self.now (λ e. let t = eq-eqb c.depth.result 0 (c.depth.ensures ∙ e) in absurd (cc (t, f)))
