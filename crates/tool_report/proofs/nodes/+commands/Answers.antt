use Rattle.std.proofs.Common.{ℕ, List, length}
use Rattle.sieve_syntax.specs.Tree.{InnerTests, EndingTree}
use Rattle.sieve_syntax.specs.View.{inner_of, command_of, ending_of}
use Rattle.sieve_syntax.specs.declared.tree.Ending.TheViews.{out-Command}
use Rattle.tool_report.specs.Nodes.{PartWithEnd, command_part, followed_by, inner_entries, ending_entries}
use Rattle.tool_report.proofs.NodeLemmas.{entered_then, followed, command_entries-fields}
use Rattle.tool_report.proofs.nodes.+commands.Goals as goal

pub add_command-returns : goal.add_command-returns
add_command-returns t c =
    let command = c.args.command.now in
    let inner : InnerTests = inner_of (out-Command command).tests in
    let finish : EndingTree = ending_of (out-Command command).ending in
    let next : ℕ → List PartWithEnd = λ m. followed_by m (inner_entries inner m) (ending_entries finish) in
    let n0 = c.args.nodes.now.items in
    let n1 = c.begin.new.nodes.items in
    let n2 = c.add_tests.new.nodes.items in
    let n3 = c.add_ending.new.nodes.items in
    let n4 = c.end.new.nodes.items in
    entered_then n0 n1 n3 n4 (command_part (command_of command)) c.in_ok-number.number next _ c.in_ok-number.ensures.number
    c.in_ok-number.ensures.entries
    (followed n1 n2 n3 (inner_entries inner (length n1)) (ending_entries finish) c.in_ok-add_tests.ensures c.in_ok-add_ending.ensures)
    c.end.ensures (command_entries-fields command (length n0))
