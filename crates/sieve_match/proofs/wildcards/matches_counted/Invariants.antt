use Rattle.std.proofs.Common.{◌+◌, ◌*◌, length}
use Rattle.sieve_meaning.specs.Matching.{items_of}
use Rattle.sieve_match.proofs.SearchLemmas.{State, left}
use Rattle.sieve_match.proofs.TrialLemmas.{Exact, again_of}
use Rattle.sieve_match.proofs.wildcards.matches_counted.Given as goal

abbrev pub invariant-search : goal.invariant-search
invariant-search l = record {
  state : State l.comparator (items_of l.pattern) l.value (items_of l.items) l.rest l.star l.count;
  exact : Exact l.comparator (items_of l.pattern) l.value (again_of l.star) (items_of l.items) l.rest l.count;
}

abbrev pub decreases-search : goal.decreases-search
decreases-search l = left l.value l.star * (length (items_of l.pattern) + 1) + length (items_of l.items)
