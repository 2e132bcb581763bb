use Rattle.std.proofs.Common.{length}
use Rattle.mail_head.proofs.FoundLemmas.{Passed}
use Rattle.mail_head.proofs.reading.first_field.Given as goal

abbrev pub invariant-loop-rest : goal.invariant-loop-rest
invariant-loop-rest l = Passed l.text l.rest

abbrev pub decreases-loop-rest : goal.decreases-loop-rest
decreases-loop-rest l = length l.rest
