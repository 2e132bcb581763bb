use Rattle.std.proofs.Common.{◌≡◌, false, length}
use Rattle.sieve_meaning.specs.Reading.{string_lists}
use Rattle.sieve_meaning.proofs.reading.next_string_list.Given as goal

abbrev pub invariant-loop-argument : goal.invariant-loop-argument
invariant-loop-argument l = string_lists l.follows_tag l.rest ≡ string_lists false l.arguments

abbrev pub decreases-loop-argument : goal.decreases-loop-argument
decreases-loop-argument l = length l.rest
