use Rattle.std.proofs.Common.{length}
use Rattle.mail_display.proofs.ShownLemmas.{Showing}
use Rattle.mail_display.proofs.showing.shown_line.Given as goal

abbrev pub invariant-loop-octet : goal.invariant-loop-octet
invariant-loop-octet l = Showing l.line l.rest l.octets.items l.unread l.is_after_word

abbrev pub decreases-loop-octet : goal.decreases-loop-octet
decreases-loop-octet l = length l.rest
