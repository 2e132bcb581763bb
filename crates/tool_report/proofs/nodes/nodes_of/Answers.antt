use Rattle.std.proofs.Common.{◌≡◌, rules}
use Rattle.sieve_syntax.specs.View.{tree_of}
use Rattle.tool_report.specs.Nodes.{node_entries, commands_entries}
use Rattle.tool_report.proofs.NodeLemmas.{named_by_entries}
use Rattle.tool_report.proofs.nodes.nodes_of.Goals as goal

pub returns-clause-names : goal.returns-clause-names
returns-clause-names c =
    let entries : node_entries c.add_commands.new.nodes.items ≡ commands_entries (tree_of c.args.script.now) 0 = search rules in
    named_by_entries _ _ entries
