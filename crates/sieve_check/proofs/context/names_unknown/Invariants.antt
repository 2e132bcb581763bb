use Rattle.std.proofs.Common.{◌≡◌, drop}
use Rattle.std.specs.Prelude.{is_none}
use Rattle.std.specs.List.{list_any, flat_map}
use Rattle.sieve_check.specs.Lookup.{capability_named}
use Rattle.sieve_check.specs.Rules.{argument_strings, names_unknown}
use Rattle.sieve_check.proofs.context.names_unknown.Given as goal

abbrev pub invariant-loop-argument : goal.invariant-loop-argument
invariant-loop-argument l =
    list_any (λ s. is_none (capability_named s)) (flat_map argument_strings (drop l.argument-index l.argument-items))
    ≡ names_unknown l.fn.arguments
