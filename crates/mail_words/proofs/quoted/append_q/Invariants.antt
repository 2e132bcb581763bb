use Rattle.std.proofs.Common.{length}
use Rattle.mail_words.specs.Unfolding.{without_line_ends}
use Rattle.mail_words.proofs.QuotedLemmas.{Decoded}
use Rattle.mail_words.proofs.quoted.append_q.Given as goal

abbrev pub invariant-loop-octet : goal.invariant-loop-octet
invariant-loop-octet l = Decoded l.charset (without_line_ends l.text) (without_line_ends l.rest) l.fn.shown.items l.shown.items l.place

abbrev pub decreases-loop-octet : goal.decreases-loop-octet
decreases-loop-octet l = length (without_line_ends l.rest)
