-- Examples of the definitions.
use Rattle.std.proofs.Common.{◌≡◌, ◌∷◌, [], refl}
use Rattle.std.specs.Prelude.{codes}
use Rattle.sieve_syntax.specs.Tree.{TestTree, test, no_tests, one_test, CommandTree, command, semicolon, block, no_commands, command_then}
use Rattle.tool_report.specs.Nodes.{command_part, test_part, commands_entries}

abbrev stop : CommandTree
stop = command (codes "stop") [] no_tests semicolon

abbrev always : TestTree
always = test (codes "true") [] no_tests

-- if true { stop; }
abbrev choice : CommandTree
choice = command (codes "if") [] (one_test always) (block (command_then stop no_commands))

-- the test and the command of the block are inside
inside : commands_entries (command_then choice (command_then stop no_commands)) 0
    ≡ (command_part choice, 3) ∷ (test_part always, 2) ∷ (command_part stop, 3) ∷ (command_part stop, 4) ∷ []
inside = refl
