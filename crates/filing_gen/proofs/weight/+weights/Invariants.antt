use Rattle.std.proofs.Common.{◌≡◌, ◌+◌, drop, map, false}
use Rattle.sieve_syntax.specs.View.{command_of, commands_of}
use Rattle.filing_gen.specs.Weights.{weight_from}
use Rattle.filing_gen.proofs.weight.+weights.Given as goal

abbrev pub invariant-weigh_commands-loop-command : goal.invariant-weigh_commands-loop-command
invariant-weigh_commands-loop-command g l =
    l.left + weight_from (g.L.Weights.weight_of l.linker) l.is_open
    (commands_of (map command_of (drop l.command-index l.command-items)))
    ≡ l.rest + weight_from (g.L.Weights.weight_of l.linker) false (commands_of (map command_of l.commands.items))
