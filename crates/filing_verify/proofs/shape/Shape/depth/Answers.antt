use Rattle.std.proofs.Common.{sym}
use Rattle.std.proofs.lemmas.List.{length-reverse}
use Rattle.filing_verify.proofs.shape.Shape.depth.Goals as goal

pub returns : goal.returns
returns c = rw (← c.entries.ensures) (sym (length-reverse c.entries.result.now))
