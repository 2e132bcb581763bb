-- The trees that the code's trees represent.
use Rattle.std.specs.Prelude.{List, [], ◌∷◌, map}
use Rattle.sieve_syntax.specs.Tree.{TestTree, test, InnerTests, no_tests, one_test, listed_tests, TestRow, last_test, next_test, CommandTree, command, EndingTree, semicolon, block, CommandTrees, no_commands, command_then}
use Rattle.sieve_syntax.specs.declared.tree.Tests.{Tests}
use Rattle.sieve_syntax.specs.declared.tree.Test.{Test}
use Rattle.sieve_syntax.specs.declared.tree.TestList.{TestList}
use Rattle.sieve_syntax.specs.declared.tree.Tests.TheFolds.{fold-Test, fold-Tests, fold-TestList}
use Rattle.sieve_syntax.specs.declared.tree.Tests.TheOpen.{Tests-F, Test-F, TestList-F}
use Rattle.sieve_syntax.specs.declared.tree.Ending.{Ending}
use Rattle.sieve_syntax.specs.declared.tree.Command.{Command}
use Rattle.sieve_syntax.specs.declared.tree.Ending.TheFolds.{fold-Command, fold-Ending}
use Rattle.sieve_syntax.specs.declared.tree.Ending.TheOpen.{Ending-F, Command-F}
use Rattle.sieve_syntax.specs.declared.tree.Script.{Script}

abbrev pub row_of : List TestTree → TestRow
row_of [] = last_test
row_of (t ∷ ts) = next_test t (row_of ts)

abbrev pub list_step : TestList-F InnerTests TestTree InnerTests → InnerTests
list_step l = listed_tests l.first (row_of l.others.items)

abbrev pub tests_step : Tests-F InnerTests TestTree InnerTests → InnerTests
tests_step Tests-F.None = no_tests
tests_step (Tests-F.One t) = one_test t.value
tests_step (Tests-F.Listed l) = l.value

abbrev pub test_step : Test-F InnerTests TestTree InnerTests → TestTree
test_step t = test t.name t.arguments t.tests

abbrev pub test_of : Test → TestTree
test_of = fold-Test InnerTests TestTree InnerTests tests_step test_step list_step

abbrev pub list_of : TestList → InnerTests
list_of = fold-TestList InnerTests TestTree InnerTests tests_step test_step list_step

abbrev pub inner_of : Tests → InnerTests
inner_of = fold-Tests InnerTests TestTree InnerTests tests_step test_step list_step

abbrev pub commands_of : List CommandTree → CommandTrees
commands_of [] = no_commands
commands_of (c ∷ cs) = command_then c (commands_of cs)

abbrev pub ending_step : Ending-F EndingTree CommandTree → EndingTree
ending_step Ending-F.Semicolon = semicolon
ending_step (Ending-F.Block v) = block (commands_of v.value.items)

abbrev pub command_step : Command-F EndingTree CommandTree → CommandTree
command_step c = command c.name c.arguments (inner_of c.tests) c.ending

abbrev pub command_of : Command → CommandTree
command_of = fold-Command EndingTree CommandTree ending_step command_step

abbrev pub ending_of : Ending → EndingTree
ending_of = fold-Ending EndingTree CommandTree ending_step command_step

-- the tree of a script
abbrev pub tree_of : Script → CommandTrees
tree_of s = commands_of (map command_of s.commands.items)
