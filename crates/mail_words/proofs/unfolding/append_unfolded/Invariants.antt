use Rattle.std.proofs.Common.{◌≡◌, ◌++◌, length}
use Rattle.mail_words.specs.Unfolding.{without_line_ends}
use Rattle.mail_words.proofs.unfolding.append_unfolded.Given as goal

abbrev pub invariant-loop-place : goal.invariant-loop-place
invariant-loop-place l = l.line.items ++ without_line_ends l.rest ≡ l.fn.line.items ++ without_line_ends l.fn.text

abbrev pub decreases-loop-place : goal.decreases-loop-place
decreases-loop-place l = length l.rest
