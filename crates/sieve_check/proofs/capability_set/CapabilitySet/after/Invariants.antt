use Rattle.std.proofs.Common.{◌≡◌, drop}
use Rattle.std.specs.List.{flat_map}
use Rattle.sieve_check.specs.Context.{set_after}
use Rattle.sieve_check.specs.Rules.{argument_strings, strings_in}
use Rattle.sieve_check.proofs.capability_set.CapabilitySet.after.Given as goal

abbrev pub invariant-loop-argument : goal.invariant-loop-argument
invariant-loop-argument l = set_after l.named (flat_map argument_strings (drop l.argument-index l.argument-items))
    ≡ set_after l.fn.self (strings_in l.fn.arguments)
