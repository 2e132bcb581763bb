use Rattle.std.proofs.Common.{◌≡◌, rules}
use Rattle.std.specs.Bool.{Decides}
use Rattle.std.proofs.lemmas.Slice.Eq.{slice_eq-Decides}
use Rattle.filing_verify.specs.declared.kind.Kind.{Kind}
use Rattle.filing_verify.specs.declared.kind.Kind.TheVariants.{Truth, Texts, Count}
use Rattle.filing_verify.specs.contracts.kind.KindPartialEq.TheImpl.{eq-value}
use Rattle.filing_verify.proofs.shape.are_same.Goals as goal

decides : (a b : Kind) → Decides (eq-value.it a b) (a ≡ b)
decides Truth Truth = search rules
decides Texts Texts = search rules
decides Count Count = search rules
decides Truth Texts = (λ e. cc, λ e. cc)
decides Truth Count = (λ e. cc, λ e. cc)
decides Texts Truth = (λ e. cc, λ e. cc)
decides Texts Count = (λ e. cc, λ e. cc)
decides Count Truth = (λ e. cc, λ e. cc)
decides Count Texts = (λ e. cc, λ e. cc)

pub returns : goal.returns
returns c = slice_eq-Decides decides _ _ _ c.eq.ensures
