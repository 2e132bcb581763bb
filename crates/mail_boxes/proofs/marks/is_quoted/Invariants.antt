use Rattle.std.proofs.Common.{◌≡◌, length}
use Rattle.mail_boxes.specs.Marks.{is_quoted}
use Rattle.mail_boxes.proofs.marks.is_quoted.Given as goal

abbrev pub invariant-loop-rest : goal.invariant-loop-rest
invariant-loop-rest l = is_quoted l.rest ≡ is_quoted l.line

abbrev pub decreases-loop-rest : goal.decreases-loop-rest
decreases-loop-rest l = length l.rest
