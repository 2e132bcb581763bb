use Rattle.std.proofs.Common.{◌-◌, length}
use Rattle.mail_head.proofs.LineLemmas.{Begun}
use Rattle.mail_head.proofs.lines.logical_len.Given as goal

abbrev pub invariant-loop-n : goal.invariant-loop-n
invariant-loop-n l = Begun l.rest l.n

abbrev pub decreases-loop-n : goal.decreases-loop-n
decreases-loop-n l = length l.rest - l.n
