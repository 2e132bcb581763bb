-- The commands and tests in a list.
use Rattle.std.specs.Prelude.{ℕ, ◌+◌, List, [], ◌∷◌, ◌++◌, length, map}
use Rattle.sieve_syntax.specs.Tree.{TestTree, test, InnerTests, no_tests, one_test, listed_tests, TestRow, last_test, next_test, CommandTree, command, EndingTree, semicolon, block, CommandTrees, no_commands, command_then}
use Rattle.sieve_syntax.specs.View.{test_of, command_of}
use Rattle.tool_report.specs.declared.nodes.Thing.{Thing}
use Rattle.tool_report.specs.declared.nodes.Thing.TheVariants as things
use Rattle.tool_report.specs.declared.nodes.Node.{Node}

abbrev pub test_name : TestTree → List ℕ
test_name (test name args inner) = name

abbrev pub command_name : CommandTree → List ℕ
command_name (command name args inner finish) = name

abbrev pub thing_name : Thing → List ℕ
thing_name (things.Command c) = command_name (command_of c.now)
thing_name (things.Test t) = test_name (test_of t.now)

abbrev pub node_names : List Node → List (List ℕ)
node_names ns = map (λ (n : Node). thing_name n.thing) ns

-- a command or a test of a tree
pub data Part : Type 0 where
  command_part : CommandTree → Part
  test_part : TestTree → Part

abbrev pub part_of : Thing → Part
part_of (things.Command c) = command_part (command_of c.now)
part_of (things.Test t) = test_part (test_of t.now)

-- a part, and the number of the first one after those that are inside it
abbrev pub PartWithEnd : Type 0
PartWithEnd = Part × ℕ

abbrev pub node_entry : Node → PartWithEnd
node_entry n = (part_of n.thing, n.end)

abbrev pub node_entries : List Node → List PartWithEnd
node_entries ns = map node_entry ns

-- a part that has this number, and those that are inside it
abbrev pub with_inside : Part → (number : ℕ) → (inside : List PartWithEnd) → List PartWithEnd
with_inside part number inside = (part, number + 1 + length inside) ∷ inside

-- the first entries, from this number on, and those that follow them
abbrev pub followed_by : (number : ℕ) → (first : List PartWithEnd) → (ℕ → List PartWithEnd) → List PartWithEnd
followed_by number first next = first ++ next (number + length first)

-- the entries of a tree of which the first one has this number: a command, then its tests, then its block
abbrev mutual
  pub test_entries : TestTree → ℕ → List PartWithEnd
  test_entries (test name args inner) n = with_inside (test_part (test name args inner)) n (inner_entries inner (n + 1))

  pub inner_entries : InnerTests → ℕ → List PartWithEnd
  inner_entries no_tests n = []
  inner_entries (one_test t) n = test_entries t n
  inner_entries (listed_tests t row) n = followed_by n (test_entries t n) (row_entries row)

  pub row_entries : TestRow → ℕ → List PartWithEnd
  row_entries last_test n = []
  row_entries (next_test t row) n = followed_by n (test_entries t n) (row_entries row)

abbrev mutual
  pub command_entries : CommandTree → ℕ → List PartWithEnd
  command_entries (command name args inner finish) n = with_inside (command_part (command name args inner finish)) n
      (followed_by (n + 1) (inner_entries inner (n + 1)) (ending_entries finish))

  pub ending_entries : EndingTree → ℕ → List PartWithEnd
  ending_entries semicolon n = []
  ending_entries (block cs) n = commands_entries cs n

  pub commands_entries : CommandTrees → ℕ → List PartWithEnd
  commands_entries no_commands n = []
  commands_entries (command_then c cs) n = followed_by n (command_entries c n) (commands_entries cs)
