use Rattle.std.proofs.Common.{◌≡◌, drop}
use Rattle.sieve_meaning.specs.Reading.{number_in}
use Rattle.sieve_meaning.proofs.reading.number.Given as goal

abbrev pub invariant-loop-argument : goal.invariant-loop-argument
invariant-loop-argument l = number_in (drop l.argument-index l.arguments) ≡ number_in l.arguments
