use Rattle.std.proofs.Common.{drop, map}
use Rattle.sieve_syntax.specs.View.{command_of, commands_of}
use Rattle.sieve_meaning.specs.Reading.{program_of}
use Rattle.filing_gen.proofs.Chains.{Stands}
use Rattle.filing_gen.proofs.emit_commands.+emission.Given as goal

abbrev pub invariant-emit_commands-loop-command : goal.invariant-emit_commands-loop-command
invariant-emit_commands-loop-command g l =
    Stands (g.L.Linker.flow_of l.linker) l.back l.initial.out l.out l.jumps.items l.is_open
    (commands_of (map command_of (drop l.command-index l.command-items)))
    (program_of (commands_of (map command_of l.commands.items)))
