use Rattle.std.proofs.Common.{◌≡◌, length}
use Rattle.mail_words.specs.Unfolding.{without_line_ends, without_first_blanks}
use Rattle.mail_words.proofs.unfolding.trim_start.Given as goal

abbrev pub invariant-loop-octet : goal.invariant-loop-octet
invariant-loop-octet l = without_first_blanks (without_line_ends l.text) ≡ without_first_blanks (without_line_ends l.rest)

abbrev pub decreases-loop-octet : goal.decreases-loop-octet
decreases-loop-octet l = length (without_line_ends l.rest)
