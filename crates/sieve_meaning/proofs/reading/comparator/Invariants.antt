use Rattle.std.proofs.Common.{◌≡◌, false, drop}
use Rattle.sieve_meaning.specs.Reading.{comparator_from}
use Rattle.sieve_meaning.proofs.reading.comparator.Given as goal

abbrev pub invariant-loop-argument : goal.invariant-loop-argument
invariant-loop-argument l = comparator_from l.follows_tag (drop l.argument-index l.arguments) ≡ comparator_from false l.arguments
