use Rattle.std.proofs.Common.{arith}
use Rattle.sieve_check.specs.Rules.{strings_in}
use Rattle.sieve_check.proofs.Strings.{named_turn}
use Rattle.sieve_check.proofs.capability_set.CapabilitySet.after.Goals as goal

pub loop-argument-preserved : goal.loop-argument-preserved
loop-argument-preserved c =
    named_turn c.loop-argument.named c.after_argument-named.result c.args.self (strings_in c.args.arguments.now)
    c.as_slice-argument-items.result.now c.loop-argument.argument-index c.argument-item.result (omega arith)
    c.argument-item.is c.loop-argument.invariant c.after_argument-named.ensures
