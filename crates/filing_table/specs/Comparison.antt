-- The numbers of comparisons: the first operand of `Match`, by a match type and a comparator (RFC 5228, sections 2.7.1
-- and 2.7.3). `compared` of `Machine` says what a value and a key must satisfy by the number.
use Rattle.std.specs.Prelude.{ℕ}
use Rattle.sieve_meaning.specs.declared.matching.Comparator.{Comparator}
use Rattle.sieve_meaning.specs.declared.matching.Comparator.TheVariants as comparators
use Rattle.sieve_meaning.specs.declared.matching.MatchType.{MatchType}
use Rattle.sieve_meaning.specs.declared.matching.MatchType.TheVariants as match_types

-- the number of a comparison
abbrev pub comparison : MatchType → Comparator → ℕ
comparison match_types.Is comparators.Octet = 0
comparison match_types.Is comparators.Casemap = 1
comparison match_types.Contains comparators.Octet = 2
comparison match_types.Contains comparators.Casemap = 3
comparison match_types.Matches comparators.Octet = 4
comparison match_types.Matches comparators.Casemap = 5
