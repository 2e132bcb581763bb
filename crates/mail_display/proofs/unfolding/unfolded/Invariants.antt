use Rattle.std.proofs.Common.{◌≡◌, ◌++◌, length}
use Rattle.mail_words.specs.Unfolding.{without_line_ends}
use Rattle.mail_display.proofs.unfolding.unfolded.Given as goal

abbrev pub invariant-loop-octet : goal.invariant-loop-octet
invariant-loop-octet l = l.line.items ++ without_line_ends l.rest ≡ without_line_ends l.fn.body

abbrev pub decreases-loop-octet : goal.decreases-loop-octet
decreases-loop-octet l = length l.rest
