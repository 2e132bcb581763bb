use Rattle.std.proofs.Common.{◌≡◌, length}
use Rattle.mail_head.specs.Lines.{raw_lines}
use Rattle.mail_boxes.specs.NoMail.{have_another}
use Rattle.mail_boxes.proofs.judging.has_another.Given as goal

abbrev pub invariant-loop-line : goal.invariant-loop-line
invariant-loop-line l = have_another (raw_lines l.rest) ≡ have_another (raw_lines l.text)

abbrev pub decreases-loop-line : goal.decreases-loop-line
decreases-loop-line l = length l.rest
