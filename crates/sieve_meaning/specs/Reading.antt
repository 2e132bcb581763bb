-- From the tree of the grammar to the program that runs. The definitions cover every tree. A tree that runs is well
-- made, so each argument that is read here is there.
use Rattle.std.specs.Prelude.{ℕ, List, [], ◌∷◌, Bool, true, false, codes, if◌then◌else◌}
use Rattle.std.specs.List.{list_any}
use Rattle.std.specs.Str.{bytes_eq}
use Rattle.sieve_syntax.specs.Tree.{TestTree, test, InnerTests, no_tests, one_test, listed_tests, TestRow, last_test, next_test, command, EndingTree, semicolon, block, CommandTrees, no_commands, command_then as tree_then}
use Rattle.sieve_syntax.specs.Arguments.{first_of, others_of}
use Rattle.sieve_syntax.specs.declared.tree.StringList.{StringList}
use Rattle.sieve_syntax.specs.declared.tree.Argument.{Argument}
use Rattle.sieve_syntax.specs.declared.tree.Argument.TheVariants as arguments
use Rattle.sieve_meaning.specs.declared.matching.Comparator.{Comparator}
use Rattle.sieve_meaning.specs.declared.matching.Comparator.TheVariants as comparators
use Rattle.sieve_meaning.specs.declared.matching.MatchType.{MatchType}
use Rattle.sieve_meaning.specs.declared.matching.MatchType.TheVariants as match_types
use Rattle.sieve_meaning.specs.declared.words.CommandWord.{CommandWord}
use Rattle.sieve_meaning.specs.declared.words.CommandWord.TheVariants as commands
use Rattle.sieve_meaning.specs.declared.words.TestWord.{TestWord}
use Rattle.sieve_meaning.specs.declared.words.TestWord.TheVariants as tests
use Rattle.sieve_meaning.specs.Words.{same_word, command_word, test_word}
use Rattle.sieve_meaning.specs.Program.{Test, always, negated, all_of, any_of, has_all, over, under, header, Tests, no_test, test_then, Include, require, keep, discard, stop, return, file_into, branch, include, Commands, no_command, command_then, Branches, no_branch, otherwise, if_then}

-- ARGUMENTS

abbrev pub is_tag : List ℕ → Argument → Bool
is_tag name (arguments.Tag t) = same_word t name
is_tag name (arguments.Number n) = false
is_tag name (arguments.Strings l) = false

abbrev pub has_tag : List ℕ → List Argument → Bool
has_tag name args = list_any (is_tag name) args

-- the string lists, skipping one directly after `:comparator`; the flag says whether the tag has just come
unfoldable pub string_lists : Bool → List Argument → List StringList
string_lists follows_tag [] = []
string_lists true (arguments.Strings l ∷ args) = string_lists false args
string_lists false (arguments.Strings l ∷ args) = l ∷ string_lists false args
string_lists follows_tag (arguments.Number n ∷ args) = string_lists false args
string_lists follows_tag (arguments.Tag t ∷ args) = string_lists (same_word t (codes "comparator")) args

-- the comparator of a name: `i;octet` by these exact octets, `i;ascii-casemap` by any others
abbrev pub comparator_named : List ℕ → Comparator
comparator_named s = if bytes_eq s (codes "i;octet") then comparators.Octet else comparators.Casemap

-- the comparator; the flag says whether `:comparator` has just come. It is `i;ascii-casemap` where none is named (RFC
-- 5228, section 2.7.3)
unfoldable pub comparator_from : Bool → List Argument → Comparator
comparator_from follows_tag [] = comparators.Casemap
comparator_from true (arguments.Strings l ∷ args) = comparator_named (first_of l)
comparator_from false (arguments.Strings l ∷ args) = comparator_from false args
comparator_from follows_tag (arguments.Number n ∷ args) = comparator_from false args
comparator_from follows_tag (arguments.Tag t ∷ args) = comparator_from (same_word t (codes "comparator")) args

-- `:is` where no match type is named (RFC 5228, section 2.7.1)
abbrev pub match_type : List Argument → MatchType
match_type args = if has_tag (codes "contains") args then match_types.Contains else if has_tag (codes "matches") args
    then match_types.Matches else match_types.Is

unfoldable pub number_in : List Argument → ℕ
number_in [] = 0
number_in (arguments.Number n ∷ args) = n
number_in (arguments.Strings l ∷ args) = number_in args
number_in (arguments.Tag t ∷ args) = number_in args

abbrev pub exists_of : List StringList → Test
exists_of [] = has_all []
exists_of (names ∷ more) = has_all (first_of names ∷ others_of names)

abbrev pub header_of : MatchType → Comparator → List StringList → Test
header_of m c [] = always false
header_of m c (names ∷ []) = always false
header_of m c (names ∷ keys ∷ more) = header m c (first_of names) (others_of names) (first_of keys) (others_of keys)

abbrev pub size_of : Bool → ℕ → Test
size_of true n = over n
size_of false n = under n

abbrev pub first_string : List StringList → List ℕ
first_string [] = []
first_string (l ∷ more) = first_of l

-- TESTS

-- the test of this name, from its arguments, its only test and all its tests
abbrev pub test_named : TestWord → List Argument → Test → Tests → Test
test_named tests.True args only all = always true
test_named tests.False args only all = always false
test_named tests.Not args only all = negated only
test_named tests.AllOf args only all = all_of all
test_named tests.AnyOf args only all = any_of all
test_named tests.Exists args only all = exists_of (string_lists false args)
test_named tests.Size args only all = size_of (has_tag (codes "over") args) (number_in args)
test_named tests.Header args only all = header_of (match_type args) (comparator_from false args)
    (string_lists false args)
test_named tests.Other args only all = always false

abbrev mutual
  pub test_in : TestTree → Test
  test_in (test name args inner) = test_named (test_word name) args (only_in inner) (tests_in inner)

  -- the only test
  pub only_in : InnerTests → Test
  only_in no_tests = always false
  only_in (one_test t) = test_in t
  only_in (listed_tests t row) = test_in t

  -- the tests of a list
  pub tests_in : InnerTests → Tests
  tests_in no_tests = no_test
  tests_in (one_test t) = test_then (test_in t) no_test
  tests_in (listed_tests t row) = test_then (test_in t) (row_in row)

  pub row_in : TestRow → Tests
  row_in last_test = no_test
  row_in (next_test t row) = test_then (test_in t) (row_in row)

-- COMMANDS

abbrev pub include_of : List Argument → Include
include_of args = record { global = has_tag (codes "global") args; once = has_tag (codes "once") args; optional = has_tag (codes "optional") args; name = first_string (string_lists false args) }

-- A command and those after it. An `elsif` or `else` belongs to the `if` before it, and is passed over here.
abbrev pub command_named : CommandWord → List Argument → Test → Commands → Branches → Commands → Commands
command_named commands.Require args t inner rest more = command_then require more
command_named commands.If args t inner rest more = command_then (branch (if_then t inner rest)) more
command_named commands.ElsIf args t inner rest more = more
command_named commands.Else args t inner rest more = more
command_named commands.Stop args t inner rest more = command_then stop more
command_named commands.Keep args t inner rest more = command_then keep more
command_named commands.Discard args t inner rest more = command_then discard more
command_named commands.Return args t inner rest more = command_then return more
command_named commands.FileInto args t inner rest more = command_then
    (file_into (has_tag (codes "copy") args) (first_string (string_lists false args))) more
command_named commands.Include args t inner rest more = command_then (include (include_of args)) more
command_named commands.Other args t inner rest more = more

-- the branches that a command begins: those of an `elsif` or `else`, and otherwise none
abbrev pub branch_named : CommandWord → Test → Commands → Branches → Branches
branch_named commands.ElsIf t inner rest = if_then t inner rest
branch_named commands.Else t inner rest = otherwise inner
branch_named commands.Require t inner rest = no_branch
branch_named commands.If t inner rest = no_branch
branch_named commands.Stop t inner rest = no_branch
branch_named commands.Keep t inner rest = no_branch
branch_named commands.Discard t inner rest = no_branch
branch_named commands.Return t inner rest = no_branch
branch_named commands.FileInto t inner rest = no_branch
branch_named commands.Include t inner rest = no_branch
branch_named commands.Other t inner rest = no_branch

abbrev mutual
  -- the program of commands
  pub program_of : CommandTrees → Commands
  program_of no_commands = no_command
  program_of (tree_then (command name args inner finish) more) = command_named (command_word name) args (only_in inner)
      (block_in finish) (branches_of more) (program_of more)

  -- the branches after an `if` or `elsif`
  pub branches_of : CommandTrees → Branches
  branches_of no_commands = no_branch
  branches_of (tree_then (command name args inner finish) more) = branch_named (command_word name) (only_in inner)
      (block_in finish) (branches_of more)

  pub block_in : EndingTree → Commands
  block_in semicolon = no_command
  block_in (block cs) = program_of cs
