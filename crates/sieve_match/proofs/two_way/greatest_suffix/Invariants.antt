use Rattle.std.proofs.Common.{◌+◌, ◌-◌, ◌*◌, length}
use Rattle.memchr.proofs.lemmas.SuffixLemmas.{IsScan}
use Rattle.sieve_match.specs.TwoWay.{folded_octet, Precedes}
use Rattle.sieve_match.proofs.two_way.greatest_suffix.Given as goal

abbrev pub invariant-suffixes : goal.invariant-suffixes
invariant-suffixes l = IsScan (Precedes l.order) (folded_octet l.key) (length l.key) l.place l.period l.candidate l.offset

abbrev pub decreases-suffixes : goal.decreases-suffixes
decreases-suffixes l = 2 * length l.key + 1 - (l.place + l.candidate + l.offset)
