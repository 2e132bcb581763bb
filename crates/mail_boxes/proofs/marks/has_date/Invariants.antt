use Rattle.std.proofs.Common.{◌≡◌, length}
use Rattle.mail_boxes.specs.Marks.{has_date}
use Rattle.mail_boxes.proofs.marks.has_date.Given as goal

abbrev pub invariant-loop-rest : goal.invariant-loop-rest
invariant-loop-rest l = has_date l.rest ≡ has_date l.text

abbrev pub decreases-loop-rest : goal.decreases-loop-rest
decreases-loop-rest l = length l.rest
