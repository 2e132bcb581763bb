-- Trees of scripts, without their layout in memory, with their only spelling as tokens and their two depths. The
-- grammar is that of RFC 5228, section 8.2, written from the tree to its tokens.
use Rattle.std.specs.Prelude.{ℕ, suc, max, List, [], ◌∷◌, ◌++◌}
use Rattle.sieve_syntax.specs.declared.tree.StringList.{StringList}
use Rattle.sieve_syntax.specs.declared.tree.StringList.TheVariants as string_lists
use Rattle.sieve_syntax.specs.declared.tree.Argument.{Argument}
use Rattle.sieve_syntax.specs.declared.tree.Argument.TheVariants as arguments
use Rattle.sieve_syntax.specs.declared.token.Mark.TheVariants.{Semicolon, OpenBrace, CloseBrace, OpenParen, CloseParen, OpenBracket, CloseBracket, Comma}
use Rattle.sieve_syntax.specs.declared.token.TokenKind.{TokenKind}
use Rattle.sieve_syntax.specs.declared.token.TokenKind.TheVariants as tokens

mutual
  -- test = identifier arguments
  pub data TestTree : Type 0 where
    test : (name : List ℕ) (args : List Argument) (inner : InnerTests) → TestTree

  -- the tests of a command or of a test: none, one, or a test-list in parentheses
  pub data InnerTests : Type 0 where
    no_tests : InnerTests
    one_test : TestTree → InnerTests
    listed_tests : TestTree → TestRow → InnerTests

  -- the tests of a list after the first one
  pub data TestRow : Type 0 where
    last_test : TestRow
    next_test : TestTree → TestRow → TestRow

mutual
  -- command = identifier arguments (";" / block)
  pub data CommandTree : Type 0 where
    command : (name : List ℕ) (args : List Argument) (inner : InnerTests) (finish : EndingTree) → CommandTree

  pub data EndingTree : Type 0 where
    semicolon : EndingTree
    block : CommandTrees → EndingTree

  -- commands = *command
  pub data CommandTrees : Type 0 where
    no_commands : CommandTrees
    command_then : CommandTree → CommandTrees → CommandTrees

abbrev pub other_string_tokens : List (List ℕ) → List TokenKind
other_string_tokens [] = tokens.Mark CloseBracket ∷ []
other_string_tokens (s ∷ ss) = tokens.Mark Comma ∷ tokens.StringValue s ∷ other_string_tokens ss

-- string-list = "[" string *("," string) "]" / string
abbrev pub string_list_tokens : StringList → List TokenKind
string_list_tokens (string_lists.One s) = tokens.StringValue s ∷ []
string_list_tokens (string_lists.Listed s ss) = tokens.Mark OpenBracket ∷ tokens.StringValue s ∷ other_string_tokens ss

-- argument = string-list / number / tag
abbrev pub argument_tokens : Argument → List TokenKind
argument_tokens (arguments.Strings l) = string_list_tokens l
argument_tokens (arguments.Number n) = tokens.Number n ∷ []
argument_tokens (arguments.Tag name) = tokens.Tag name ∷ []

abbrev pub arguments_tokens : List Argument → List TokenKind
arguments_tokens [] = []
arguments_tokens (a ∷ more) = argument_tokens a ++ arguments_tokens more

abbrev mutual
  pub test_tokens : TestTree → List TokenKind
  test_tokens (test name args inner) = tokens.Identifier name ∷ (arguments_tokens args ++ inner_tokens inner)

  -- test-list = "(" test *("," test) ")"
  pub inner_tokens : InnerTests → List TokenKind
  inner_tokens no_tests = []
  inner_tokens (one_test t) = test_tokens t
  inner_tokens (listed_tests t row) = tokens.Mark OpenParen ∷ (test_tokens t ++ row_tokens row)

  pub row_tokens : TestRow → List TokenKind
  row_tokens last_test = tokens.Mark CloseParen ∷ []
  row_tokens (next_test t row) = tokens.Mark Comma ∷ (test_tokens t ++ row_tokens row)

abbrev mutual
  pub command_tokens : CommandTree → List TokenKind
  command_tokens (command name args inner finish) = tokens.Identifier name ∷
      (arguments_tokens args ++ (inner_tokens inner ++ ending_tokens finish))

  -- block = "{" commands "}"
  pub ending_tokens : EndingTree → List TokenKind
  ending_tokens semicolon = tokens.Mark Semicolon ∷ []
  ending_tokens (block cs) = tokens.Mark OpenBrace ∷ (commands_tokens cs ++ tokens.Mark CloseBrace ∷ [])

  pub commands_tokens : CommandTrees → List TokenKind
  commands_tokens no_commands = []
  commands_tokens (command_then c cs) = command_tokens c ++ commands_tokens cs

-- how deep tests are nested
abbrev mutual
  pub test_depth : TestTree → ℕ
  test_depth (test name args inner) = suc (inner_depth inner)

  pub inner_depth : InnerTests → ℕ
  inner_depth no_tests = 0
  inner_depth (one_test t) = test_depth t
  inner_depth (listed_tests t row) = max (test_depth t) (row_depth row)

  pub row_depth : TestRow → ℕ
  row_depth last_test = 0
  row_depth (next_test t row) = max (test_depth t) (row_depth row)

-- the greatest depth of tests in commands
abbrev mutual
  pub command_test_depth : CommandTree → ℕ
  command_test_depth (command name args inner finish) = max (inner_depth inner) (ending_test_depth finish)

  pub ending_test_depth : EndingTree → ℕ
  ending_test_depth semicolon = 0
  ending_test_depth (block cs) = commands_test_depth cs

  pub commands_test_depth : CommandTrees → ℕ
  commands_test_depth no_commands = 0
  commands_test_depth (command_then c cs) = max (command_test_depth c) (commands_test_depth cs)

-- how deep blocks are nested
abbrev mutual
  pub command_block_depth : CommandTree → ℕ
  command_block_depth (command name args inner finish) = ending_block_depth finish

  pub ending_block_depth : EndingTree → ℕ
  ending_block_depth semicolon = 0
  ending_block_depth (block cs) = suc (commands_block_depth cs)

  pub commands_block_depth : CommandTrees → ℕ
  commands_block_depth no_commands = 0
  commands_block_depth (command_then c cs) = max (command_block_depth c) (commands_block_depth cs)
