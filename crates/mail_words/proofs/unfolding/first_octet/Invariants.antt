use Rattle.std.proofs.Common.{length}
use Rattle.mail_words.proofs.FoldedLemmas.{Skipped}
use Rattle.mail_words.proofs.unfolding.first_octet.Given as goal

abbrev pub invariant-loop-rest : goal.invariant-loop-rest
invariant-loop-rest l = Skipped l.text l.rest

abbrev pub decreases-loop-rest : goal.decreases-loop-rest
decreases-loop-rest l = length l.rest
