use Rattle.std.proofs.Common.{◌≡◌, ◌++◌, drop, length, map}
use Rattle.sieve_syntax.specs.View.{command_of, commands_of}
use Rattle.tool_report.specs.Nodes.{node_entries, commands_entries}
use Rattle.tool_report.proofs.nodes.+commands.Given as goal

abbrev pub invariant-add_commands-loop-command : goal.invariant-add_commands-loop-command
invariant-add_commands-loop-command l = node_entries l.nodes.items
    ++ commands_entries (commands_of (map command_of (drop l.command-index l.command-items))) (length l.nodes.items)
    ≡ node_entries l.initial.nodes.items ++ commands_entries (commands_of (map command_of l.fn.commands.items)) (length l.initial.nodes.items)
