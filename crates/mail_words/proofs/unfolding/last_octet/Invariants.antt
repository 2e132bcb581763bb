use Rattle.std.proofs.Common.{◌≡◌, length}
use Rattle.mail_words.specs.Unfolding.{without_line_ends}
use Rattle.mail_words.proofs.unfolding.last_octet.Given as goal

abbrev pub invariant-loop-rest : goal.invariant-loop-rest
invariant-loop-rest l = without_line_ends l.text ≡ without_line_ends l.rest

abbrev pub decreases-loop-rest : goal.decreases-loop-rest
decreases-loop-rest l = length l.rest
