use Rattle.std.proofs.Common.{length}
use Rattle.mail_head.proofs.PartLemmas.{Taken}
use Rattle.mail_head.proofs.parts.header_len.Given as goal

abbrev pub invariant-loop-rest : goal.invariant-loop-rest
invariant-loop-rest l = Taken l.text l.rest l.len

abbrev pub decreases-loop-rest : goal.decreases-loop-rest
decreases-loop-rest l = length l.rest
