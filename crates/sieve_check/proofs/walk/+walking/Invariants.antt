use Rattle.std.proofs.Common.{◌≡◌, drop, map}
use Rattle.sieve_syntax.specs.View.{command_of, commands_of, ending_of}
use Rattle.sieve_check.specs.Rules.{in_order, ending_in_order}
use Rattle.sieve_check.specs.Walk.{walk}
use Rattle.sieve_check.proofs.walk.+walking.Given as goal

abbrev pub invariant-pass_ending-loop-command : goal.invariant-pass_ending-loop-command
invariant-pass_ending-loop-command l =
    walk l.known (in_order l.follows_branch (commands_of (map command_of (drop l.command-index l.command-items))))
    ≡ walk l.fn.context (ending_in_order (ending_of l.fn.ending))
