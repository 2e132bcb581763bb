-- What each case of the code's trees represents.
use Rattle.std.proofs.Common.{◌≡◌, ◌∙◌, map, Vec, Box, Global}
use Rattle.sieve_syntax.specs.Tree.{TestTree, test, InnerTests, no_tests, one_test, listed_tests, CommandTree, command, EndingTree, semicolon, block}
use Rattle.sieve_syntax.specs.View.{tests_step, test_step, list_step, test_of, inner_of, list_of, row_of, ending_step}
use Rattle.sieve_syntax.specs.View.{command_step, command_of, ending_of, commands_of}
use Rattle.sieve_syntax.specs.declared.tree.Test.{Test, out-Test}
use Rattle.sieve_syntax.specs.declared.tree.TestList.{TestList, out-TestList}
use Rattle.sieve_syntax.specs.declared.tree.Tests.TheVariants.{None, One, Listed}
use Rattle.sieve_syntax.specs.declared.tree.Tests.TheViews.{roll-Tests}
use Rattle.sieve_syntax.specs.declared.tree.Tests.TheFolds.{fold-roll-Tests, fold_out-Test, fold_out-TestList}
use Rattle.sieve_syntax.specs.declared.tree.Tests.TheOpen.{Tests-F}
use Rattle.sieve_syntax.specs.declared.tree.Command.{Command}
use Rattle.sieve_syntax.specs.declared.tree.Ending.TheVariants.{Block, Semicolon}
use Rattle.sieve_syntax.specs.declared.tree.Ending.TheViews.{roll-Ending, out-Command}
use Rattle.sieve_syntax.specs.declared.tree.Ending.TheFolds.{fold-roll-Ending, fold_out-Command}
use Rattle.sieve_syntax.specs.declared.tree.Ending.TheOpen.{Ending-F}

pub test_of-fields : (t : Test) → test_of t ≡ test (out-Test t).name (out-Test t).arguments (inner_of (out-Test t).tests)
test_of-fields t = fold_out-Test InnerTests TestTree InnerTests tests_step test_step list_step t

list_of-fields : (l : TestList) → list_of l ≡ listed_tests (test_of (out-TestList l).first) (row_of (map test_of (out-TestList l).others.items))
list_of-fields l = fold_out-TestList InnerTests TestTree InnerTests tests_step test_step list_step l

pub inner_of-None : inner_of None ≡ no_tests
unfolding roll-Tests denote.Hole.Carrier.roll
inner_of-None = fold-roll-Tests InnerTests TestTree InnerTests tests_step test_step list_step Tests-F.None

pub inner_of-One : (b : Box Test Global) → inner_of (One b) ≡ one_test (test_of b.value)
unfolding roll-Tests denote.Hole.Carrier.roll
inner_of-One b = fold-roll-Tests InnerTests TestTree InnerTests tests_step test_step list_step (Tests-F.One b)

pub inner_of-Listed : (b : Box TestList Global)
    → inner_of (Listed b)
    ≡ listed_tests (test_of (out-TestList b.value).first) (row_of (map test_of (out-TestList b.value).others.items))
unfolding roll-Tests denote.Hole.Carrier.roll
inner_of-Listed b = fold-roll-Tests InnerTests TestTree InnerTests tests_step test_step list_step (Tests-F.Listed b) ∙ list_of-fields b.value

pub ending_of-Block : (v : Box (Vec Command Global) Global) → ending_of (Block v) ≡ block (commands_of (map command_of v.value.items))
unfolding roll-Ending denote.Hole.Carrier.roll
ending_of-Block v = fold-roll-Ending EndingTree CommandTree ending_step command_step (Ending-F.Block v)

pub command_of-fields : (c : Command)
    → command_of c ≡ command (out-Command c).name (out-Command c).arguments (inner_of (out-Command c).tests)
    (ending_of (out-Command c).ending)
command_of-fields c = fold_out-Command EndingTree CommandTree ending_step command_step c

pub ending_of-Semicolon : ending_of Semicolon ≡ semicolon
unfolding roll-Ending denote.Hole.Carrier.roll
ending_of-Semicolon = fold-roll-Ending EndingTree CommandTree ending_step command_step Ending-F.Semicolon
