-- The shape that each command and each test of a script without refusal has.
use Rattle.std.specs.Prelude.{◌≡◌, ℕ, Bool, true, false, List, [], ◌∷◌, Some, None, codes}
use Rattle.std.specs.List.{list_any}
use Rattle.sieve_syntax.specs.declared.tree.StringList.{StringList}
use Rattle.sieve_syntax.specs.declared.tree.StringList.TheVariants as string_lists
use Rattle.sieve_syntax.specs.declared.tree.Argument.{Argument}
use Rattle.sieve_syntax.specs.declared.tree.Argument.TheVariants as arguments
use Rattle.sieve_syntax.specs.Tree.{TestTree, test, InnerTests, no_tests, one_test, listed_tests, TestRow, last_test, next_test, CommandTree, command, EndingTree, semicolon, block, CommandTrees, no_commands, command_then}
use Rattle.sieve_check.specs.declared.table.TagKind.TheVariants as kinds
use Rattle.sieve_check.specs.declared.table.Positional.{Positional}
use Rattle.sieve_check.specs.declared.table.Positional.TheVariants as places
use Rattle.sieve_check.specs.declared.table.TestsForm.{TestsForm}
use Rattle.sieve_check.specs.declared.table.TestsForm.TheVariants.{NoTest, OneTest, TestList}
use Rattle.sieve_check.specs.Tables.{WordForm, CommandWord, TestWord, fileinto_form, header_form, size_form}
use Rattle.sieve_check.specs.Lookup.{same_name, command_named, test_named}
use Rattle.sieve_check.specs.Pieces.{pieces, positional_arguments}
use Rattle.sieve_check.specs.Rules.{has_wrong_tag, has_tag_twice, has_kind, lacks_string, lacks_tag, is_unknown_comparator, lacks_branch, is_branch, role_of, command_name, refusal_of}

abbrev pub Takes : Positional → Argument → Type 0
Takes places.OneString a = (s : List ℕ) × (a ≡ arguments.Strings (string_lists.One s))
Takes places.StringList a = (l : StringList) × (a ≡ arguments.Strings l)
Takes places.OneNumber a = (n : ℕ) × (a ≡ arguments.Number n)

-- as many arguments as places, each of its kind
abbrev pub TakesEach : List Positional → List Argument → Type 0
TakesEach [] [] = Unit {0}
TakesEach [] (a ∷ more) = ⊥
TakesEach (p ∷ ps) [] = ⊥
TakesEach (p ∷ ps) (a ∷ more) = Takes p a × TakesEach ps more

abbrev pub HasTests : TestsForm → InnerTests → Type 0
HasTests NoTest inner = inner ≡ no_tests
HasTests OneTest inner = (t : TestTree) × (inner ≡ one_test t)
HasTests TestList inner = (t : TestTree) × (row : TestRow) × (inner ≡ listed_tests t row)

-- a block, or a semicolon
abbrev pub HasEnding : Bool → EndingTree → Type 0
HasEnding true finish = (cs : CommandTrees) × (finish ≡ block cs)
HasEnding false finish = finish ≡ semicolon

-- what follows a name is what the row of the name has
pub record HasForm (form : WordForm) (args : List Argument) (inner : InnerTests) : Type 0 where
  pub tags : has_wrong_tag (pieces form.tags args) ≡ false
  pub once : has_tag_twice form (pieces form.tags args) ≡ false
  pub positional : TakesEach form.positional (positional_arguments (pieces form.tags args))
  pub strings : list_any lacks_string (pieces form.tags args) ≡ false
  pub needed : lacks_tag form.needs_tag (pieces form.tags args) ≡ false
  pub comparators : list_any is_unknown_comparator (pieces form.tags args) ≡ false
  pub tests : HasTests form.tests inner

pub record HasTestRow (name : List ℕ) (args : List Argument) (inner : InnerTests) : Type 0 where
  pub word : TestWord
  pub named : test_named name ≡ Some word
  pub form : HasForm word.form args inner

abbrev mutual
  pub TestShape : TestTree → Type 0
  TestShape (test name args inner) = HasTestRow name args inner × InnerShape inner

  pub InnerShape : InnerTests → Type 0
  InnerShape no_tests = Unit {0}
  InnerShape (one_test t) = TestShape t
  InnerShape (listed_tests t row) = TestShape t × RowShape row

  pub RowShape : TestRow → Type 0
  RowShape last_test = Unit {0}
  RowShape (next_test t row) = TestShape t × RowShape row

-- the flag says whether the command directly before is an `if` or `elsif`
pub record HasCommandRow (follows : Bool) (name : List ℕ) (args : List Argument) (inner : InnerTests)
    (finish : EndingTree) : Type 0 where
  pub word : CommandWord
  pub named : command_named name ≡ Some word
  pub form : HasForm word.form args inner
  pub ending : HasEnding word.has_block finish
  pub branch : lacks_branch word.role follows ≡ false
  pub tests : InnerShape inner

abbrev mutual
  pub CommandShape : Bool → CommandTree → Type 0
  CommandShape follows (command name args inner finish) = HasCommandRow follows name args inner finish ×
      EndingShape finish

  pub EndingShape : EndingTree → Type 0
  EndingShape semicolon = Unit {0}
  EndingShape (block cs) = CommandsShape false cs

  pub CommandsShape : Bool → CommandTrees → Type 0
  CommandsShape follows no_commands = Unit {0}
  CommandsShape follows (command_then c cs) = CommandShape follows c ×
      CommandsShape (is_branch (role_of (command_named (command_name c)))) cs

-- ---- laws

-- each command and each test of a script without refusal has the shape of its row
abbrev pub ShapeLaw : Type 0
ShapeLaw = (tree : CommandTrees) → refusal_of tree ≡ None → CommandsShape false tree

-- names that are equal except for ASCII case have the same row
abbrev pub NameLaw : Type 0
NameLaw = (a b : List ℕ) → same_name a b ≡ true → (command_named a ≡ command_named b) × (test_named a ≡ test_named b)

-- an `if` has no argument, one test outside parentheses, and a block
abbrev pub IfLaw : Type 0
IfLaw = (follows : Bool) (name : List ℕ) (args : List Argument) (inner : InnerTests) (finish : EndingTree) →
    same_name name (codes "if") ≡ true → HasCommandRow follows name args inner finish → (args ≡ []) ×
    ((t : TestTree) × (inner ≡ one_test t)) × ((cs : CommandTrees) × (finish ≡ block cs))

-- a `fileinto` has one string outside brackets after its tags, no test, and no block
abbrev pub FileintoLaw : Type 0
FileintoLaw = (follows : Bool) (name : List ℕ) (args : List Argument) (inner : InnerTests) (finish : EndingTree) →
    same_name name (codes "fileinto") ≡ true → HasCommandRow follows name args inner finish →
    ((s : List ℕ) × (positional_arguments (pieces fileinto_form.tags args) ≡ arguments.Strings (string_lists.One s) ∷
    [])) × (inner ≡ no_tests) × (finish ≡ semicolon)

-- a `header` has two strings or lists of strings after its tags, and no test
abbrev pub HeaderLaw : Type 0
HeaderLaw = (name : List ℕ) (args : List Argument) (inner : InnerTests) → same_name name (codes "header") ≡ true →
    HasTestRow name args inner →
    ((names : StringList) × (keys : StringList) ×
    (positional_arguments (pieces header_form.tags args) ≡ arguments.Strings names ∷ arguments.Strings keys ∷ [])) ×
    (inner ≡ no_tests)

-- a `size` has one number after `:over` or `:under`, and no test
abbrev pub SizeLaw : Type 0
SizeLaw = (name : List ℕ) (args : List Argument) (inner : InnerTests) → same_name name (codes "size") ≡ true →
    HasTestRow name args inner →
    ((n : ℕ) × (positional_arguments (pieces size_form.tags args) ≡ arguments.Number n ∷ [])) ×
    (list_any (has_kind kinds.SizeLimit) (pieces size_form.tags args) ≡ true) × (inner ≡ no_tests)
