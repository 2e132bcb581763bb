use Rattle.std.proofs.Common.{◌≡◌, length}
use Rattle.mail_words.specs.Unfolding.{without_line_ends, without_last_blanks}
use Rattle.mail_words.proofs.unfolding.trim_end.Given as goal

abbrev pub invariant-loop-before : goal.invariant-loop-before
invariant-loop-before l = without_last_blanks (without_line_ends l.text) ≡ without_last_blanks (without_line_ends l.rest)

abbrev pub decreases-loop-before : goal.decreases-loop-before
decreases-loop-before l = length (without_line_ends l.rest)
