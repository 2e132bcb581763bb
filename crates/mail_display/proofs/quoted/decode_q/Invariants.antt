use Rattle.std.proofs.Common.{length}
use Rattle.mail_display.proofs.QuotedLemmas.{Decoded}
use Rattle.mail_display.proofs.quoted.decode_q.Given as goal

abbrev pub invariant-loop-octet : goal.invariant-loop-octet
invariant-loop-octet l = Decoded l.text l.rest l.octets.items l.place

abbrev pub decreases-loop-octet : goal.decreases-loop-octet
decreases-loop-octet l = length l.rest
