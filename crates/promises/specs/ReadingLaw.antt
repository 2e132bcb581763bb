-- What the meaning of a script reads. Each name is one that the meaning knows. It is followed by the tags, strings,
-- numbers, tests and block that are read for that name, and by no others, and no two of the tags are of one kind (RFC
-- 5228, sections 2.6.2 and 3 to 5; RFC 3894; RFC 6609, section 3).
use Rattle.std.specs.Prelude.{◌≡◌, ℕ, ◌≤◌, ◌||◌, Bool, true, false, List, [], ◌∷◌, None, All, count_by, codes}
use Rattle.std.specs.List.{list_any, list_all}
use Rattle.std.specs.Str.{bytes_eq}
use Rattle.sieve_syntax.specs.Arguments.{first_of}
use Rattle.sieve_syntax.specs.Tree.{TestTree, test, InnerTests, no_tests, one_test, listed_tests, TestRow, last_test, next_test, CommandTree, command, EndingTree, semicolon, block, CommandTrees, no_commands, command_then}
use Rattle.sieve_syntax.specs.declared.tree.StringList.{StringList}
use Rattle.sieve_syntax.specs.declared.tree.StringList.TheVariants.{One}
use Rattle.sieve_syntax.specs.declared.tree.Argument.{Argument}
use Rattle.sieve_syntax.specs.declared.tree.Argument.TheVariants as arguments
use Rattle.sieve_check.specs.Rules.{refusal_of}
use Rattle.sieve_meaning.specs.declared.words.CommandWord.{CommandWord}
use Rattle.sieve_meaning.specs.declared.words.CommandWord.TheVariants as commands
use Rattle.sieve_meaning.specs.declared.words.TestWord.{TestWord}
use Rattle.sieve_meaning.specs.declared.words.TestWord.TheVariants as tests
use Rattle.sieve_meaning.specs.Reading.{has_tag, string_lists}
use Rattle.sieve_meaning.specs.Words.{same_word, command_word, test_word}

-- the names of the tags that are read, kind by kind, of `header`, `size`, `fileinto` and `include`
abbrev pub header_tags : List (List (List ℕ))
header_tags = (codes "comparator" ∷ []) ∷ (codes "is" ∷ codes "contains" ∷ codes "matches" ∷ []) ∷ []

abbrev pub size_tags : List (List (List ℕ))
size_tags = (codes "over" ∷ codes "under" ∷ []) ∷ []

abbrev pub fileinto_tags : List (List (List ℕ))
fileinto_tags = (codes "copy" ∷ []) ∷ []

abbrev pub include_tags : List (List (List ℕ))
include_tags = (codes "personal" ∷ codes "global" ∷ []) ∷ (codes "once" ∷ []) ∷ (codes "optional" ∷ []) ∷ []

-- whether an argument is a tag with one of these names
abbrev pub is_named : List (List ℕ) → Argument → Bool
is_named names (arguments.Tag t) = list_any (same_word t) names
is_named names (arguments.Number n) = false
is_named names (arguments.Strings l) = false

-- whether an argument, if it is a tag, is of one of these kinds
abbrev pub is_tag_of : List (List (List ℕ)) → Argument → Bool
is_tag_of tags (arguments.Tag t) = list_any (λ names. list_any (same_word t) names) tags
is_tag_of tags (arguments.Number n) = true
is_tag_of tags (arguments.Strings l) = true

abbrev pub numbers_in : List Argument → List ℕ
numbers_in [] = []
numbers_in (arguments.Number n ∷ args) = n ∷ numbers_in args
numbers_in (arguments.Strings l ∷ args) = numbers_in args
numbers_in (arguments.Tag t ∷ args) = numbers_in args

-- the strings that follow `:comparator` directly; the flag says whether `:comparator` stands directly before
abbrev pub comparators_in : Bool → List Argument → List StringList
comparators_in named [] = []
comparators_in true (arguments.Strings l ∷ args) = l ∷ comparators_in false args
comparators_in false (arguments.Strings l ∷ args) = comparators_in false args
comparators_in named (arguments.Number n ∷ args) = comparators_in false args
comparators_in named (arguments.Tag t ∷ args) = comparators_in (same_word t (codes "comparator")) args

-- the comparators of RFC 5228, section 2.7.3
abbrev pub is_comparator : StringList → Bool
is_comparator l = bytes_eq (first_of l) (codes "i;octet") || bytes_eq (first_of l) (codes "i;ascii-casemap")

-- the arguments are tags of these kinds, at most one of each kind, these lists of strings, these numbers, and comparators
pub record HasArguments (tags : List (List (List ℕ))) (lists : List StringList) (numbers : List ℕ)
    (args : List Argument) : Type 0 where
  pub tags_are : list_all (is_tag_of tags) args ≡ true
  pub one_of_each : All (λ names. count_by (is_named names) args ≤ 1) tags
  pub lists_are : string_lists false args ≡ lists
  pub numbers_are : numbers_in args ≡ numbers
  pub comparators_are : list_all is_comparator (comparators_in false args) ≡ true

abbrev pub HasNone : List Argument → Type 0
HasNone args = HasArguments [] [] [] args

-- one string outside brackets, and tags
abbrev pub HasString : List (List (List ℕ)) → List Argument → Type 0
HasString tags args = (s : List ℕ) × HasArguments tags (One s ∷ []) [] args

abbrev pub HasOneTest : InnerTests → Type 0
HasOneTest inner = (t : TestTree) × (inner ≡ one_test t)

abbrev pub HasTestList : InnerTests → Type 0
HasTestList inner = (t : TestTree) × (row : TestRow) × (inner ≡ listed_tests t row)

abbrev pub HasBlock : EndingTree → Type 0
HasBlock finish = (cs : CommandTrees) × (finish ≡ block cs)

-- the arguments and tests after the name of a test are those that its meaning reads (RFC 5228, section 5)
abbrev pub TestReads : TestWord → List Argument → InnerTests → Type 0
TestReads tests.True args inner = HasNone args × (inner ≡ no_tests)
TestReads tests.False args inner = HasNone args × (inner ≡ no_tests)
TestReads tests.Not args inner = HasNone args × HasOneTest inner
TestReads tests.AllOf args inner = HasNone args × HasTestList inner
TestReads tests.AnyOf args inner = HasNone args × HasTestList inner
TestReads tests.Exists args inner = ((names : StringList) × HasArguments [] (names ∷ []) [] args) × (inner ≡ no_tests)
TestReads tests.Size args inner = ((n : ℕ) × HasArguments size_tags [] (n ∷ []) args) ×
    ((has_tag (codes "over") args || has_tag (codes "under") args) ≡ true) × (inner ≡ no_tests)
TestReads tests.Header args inner = ((names : StringList) × (keys : StringList) ×
    HasArguments header_tags (names ∷ keys ∷ []) [] args) × (inner ≡ no_tests)
TestReads tests.Other args inner = ⊥

abbrev mutual
  pub TestIsRead : TestTree → Type 0
  TestIsRead (test name args inner) = TestReads (test_word name) args inner × InnerIsRead inner

  pub InnerIsRead : InnerTests → Type 0
  InnerIsRead no_tests = Unit {0}
  InnerIsRead (one_test t) = TestIsRead t
  InnerIsRead (listed_tests t row) = TestIsRead t × RowIsRead row

  pub RowIsRead : TestRow → Type 0
  RowIsRead last_test = Unit {0}
  RowIsRead (next_test t row) = TestIsRead t × RowIsRead row

-- the arguments, tests and block after the name of a command are those that its meaning reads (RFC 5228, sections 3 and
-- 4; RFC 3894; RFC 6609, section 3)
abbrev pub CommandReads : CommandWord → List Argument → InnerTests → EndingTree → Type 0
CommandReads commands.Require args inner finish = ((names : StringList) × HasArguments [] (names ∷ []) [] args) ×
    (inner ≡ no_tests) × (finish ≡ semicolon)
CommandReads commands.If args inner finish = HasNone args × HasOneTest inner × HasBlock finish
CommandReads commands.ElsIf args inner finish = HasNone args × HasOneTest inner × HasBlock finish
CommandReads commands.Else args inner finish = HasNone args × (inner ≡ no_tests) × HasBlock finish
CommandReads commands.Stop args inner finish = HasNone args × (inner ≡ no_tests) × (finish ≡ semicolon)
CommandReads commands.Keep args inner finish = HasNone args × (inner ≡ no_tests) × (finish ≡ semicolon)
CommandReads commands.Discard args inner finish = HasNone args × (inner ≡ no_tests) × (finish ≡ semicolon)
CommandReads commands.Return args inner finish = HasNone args × (inner ≡ no_tests) × (finish ≡ semicolon)
CommandReads commands.FileInto args inner finish = HasString fileinto_tags args × (inner ≡ no_tests) ×
    (finish ≡ semicolon)
CommandReads commands.Include args inner finish = HasString include_tags args × (inner ≡ no_tests) ×
    (finish ≡ semicolon)
CommandReads commands.Other args inner finish = ⊥

-- whether an `elsif` or `else` may follow (RFC 5228, section 3.1)
abbrev pub is_branch : CommandWord → Bool
is_branch commands.If = true
is_branch commands.ElsIf = true
is_branch commands.Else = false
is_branch commands.Require = false
is_branch commands.Stop = false
is_branch commands.Keep = false
is_branch commands.Discard = false
is_branch commands.Return = false
is_branch commands.FileInto = false
is_branch commands.Include = false
is_branch commands.Other = false

-- an `elsif` or `else` directly follows an `if` or `elsif` (RFC 5228, section 3.1); the flag says whether one stands
-- before
abbrev pub Follows : CommandWord → Bool → Type 0
Follows commands.ElsIf follows = follows ≡ true
Follows commands.Else follows = follows ≡ true
Follows commands.If follows = Unit {0}
Follows commands.Require follows = Unit {0}
Follows commands.Stop follows = Unit {0}
Follows commands.Keep follows = Unit {0}
Follows commands.Discard follows = Unit {0}
Follows commands.Return follows = Unit {0}
Follows commands.FileInto follows = Unit {0}
Follows commands.Include follows = Unit {0}
Follows commands.Other follows = Unit {0}

abbrev pub word_of : CommandTree → CommandWord
word_of (command name args inner finish) = command_word name

abbrev mutual
  pub CommandIsRead : Bool → CommandTree → Type 0
  CommandIsRead follows (command name args inner finish) = CommandReads (command_word name) args inner finish ×
      Follows (command_word name) follows × InnerIsRead inner × EndingIsRead finish

  pub EndingIsRead : EndingTree → Type 0
  EndingIsRead semicolon = Unit {0}
  EndingIsRead (block cs) = CommandsAreRead false cs

  pub CommandsAreRead : Bool → CommandTrees → Type 0
  CommandsAreRead follows no_commands = Unit {0}
  CommandsAreRead follows (command_then c cs) = CommandIsRead follows c × CommandsAreRead (is_branch (word_of c)) cs

-- a script that the checker does not refuse is read as it stands
abbrev pub ReadLaw : Type 0
ReadLaw = (tree : CommandTrees) → refusal_of tree ≡ None → CommandsAreRead false tree
