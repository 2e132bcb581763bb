use Rattle.std.proofs.Common.{sym, ap, ◌∙◌, reverse}
use Rattle.filing_verify.proofs.Tables.{reverse_same}
use Rattle.filing_verify.proofs.shape.Shape.is.Goals as goal

pub returns : goal.returns
returns c = (
  λ t. sym c.entries.ensures ∙ ap reverse (c.are_same.ensures.0 t) ∙ c.entries-2.ensures,
  λ e. c.are_same.ensures.1 (reverse_same (c.entries.ensures ∙ e ∙ sym c.entries-2.ensures)),
)
