use Rattle.std.proofs.Common.{◌≡◌, false, drop, map}
use Rattle.sieve_syntax.specs.View.{command_of, commands_of, tree_of}
use Rattle.sieve_check.specs.Rules.{in_order}
use Rattle.sieve_check.specs.Walk.{start, walk}
use Rattle.sieve_check.proofs.walk.pass_script.Given as goal

abbrev pub invariant-loop-command : goal.invariant-loop-command
invariant-loop-command l =
    walk l.known (in_order l.follows_branch (commands_of (map command_of (drop l.command-index l.command-items))))
    ≡ walk start (in_order false (tree_of l.script))
