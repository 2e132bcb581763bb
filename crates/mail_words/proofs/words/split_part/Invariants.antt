use Rattle.std.proofs.Common.{length}
use Rattle.mail_words.specs.Unfolding.{without_line_ends}
use Rattle.mail_words.proofs.FoldedLemmas.{InPart}
use Rattle.mail_words.proofs.words.split_part.Given as goal

abbrev pub invariant-loop-following : goal.invariant-loop-following
invariant-loop-following l = InPart l.part l.text l.rest

abbrev pub decreases-loop-following : goal.decreases-loop-following
decreases-loop-following l = length (without_line_ends l.rest)
