use Rattle.std.proofs.Common.{◌≡◌, length}
use Rattle.filing_gen.proofs.text_pool.no_texts.Given as goal

abbrev pub invariant-loop-place : goal.invariant-loop-place
invariant-loop-place l = length l.texts.items ≡ l._place
