-- Which rules a command of a script breaks, by the numbers of the refusals, and the refusal of a script.
-- Each rule is a definition of its own.
use Rattle.std.specs.Prelude.{ℕ, Bool, true, false, ◌&&◌, ◌||◌, not, min, ◌==◌, List, [], ◌∷◌, ◌++◌, drop, Option, Some, None, is_none, if◌then◌else◌}
use Rattle.std.specs.List.{list_any, flat_map, prefix_len}
use Rattle.std.specs.Cmp.Lexicographic.{pointwise}
use Rattle.sieve_syntax.specs.declared.tree.StringList.TheVariants as string_lists
use Rattle.sieve_syntax.specs.declared.tree.Argument.{Argument}
use Rattle.sieve_syntax.specs.declared.tree.Argument.TheVariants as arguments
use Rattle.sieve_syntax.specs.Tree.{TestTree, test, InnerTests, no_tests, one_test, listed_tests, TestRow, last_test, next_test, CommandTree, command, EndingTree, semicolon, block, CommandTrees, no_commands, command_then}
use Rattle.sieve_syntax.specs.Arguments.{strings_of}
use Rattle.sieve_check.specs.declared.table.Capability.{Capability}
use Rattle.sieve_check.specs.declared.table.TagKind.{TagKind}
use Rattle.sieve_check.specs.declared.table.TagKind.TheVariants as kinds
use Rattle.sieve_check.specs.declared.table.Positional.{Positional}
use Rattle.sieve_check.specs.declared.table.Positional.TheVariants as places
use Rattle.sieve_check.specs.declared.table.TestsForm.{TestsForm}
use Rattle.sieve_check.specs.declared.table.TestsForm.TheVariants.{NoTest, OneTest, TestList}
use Rattle.sieve_check.specs.declared.table.Role.{Role}
use Rattle.sieve_check.specs.declared.table.Role.TheVariants as roles
use Rattle.sieve_check.specs.Tables.{WordForm, CommandWord, TestWord, comparator_table}
use Rattle.sieve_check.specs.Lookup.{same_text, command_named, test_named, capability_named, names}
use Rattle.sieve_check.specs.Pieces.{PieceWord, tagged, positional, pieces, is_tagged, positional_arguments}

-- ---- commands in text order

-- A command without the commands of its block: its row, if the table has its name; what follows the name; and whether
-- it ends with a block. The last field says whether the command directly before it, in the same block, is an `if` or
-- `elsif`.
pub record PlacedCommand : Type 0 where
  pub word : Option CommandWord
  pub args : List Argument
  pub inner : InnerTests
  pub has_block : Bool
  pub follows_branch : Bool

abbrev pub role_of : Option CommandWord → Role
role_of None = roles.Other
role_of (Some w) = w.role

abbrev pub is_require : Role → Bool
is_require roles.Require = true
is_require roles.If = false
is_require roles.Elsif = false
is_require roles.Else = false
is_require roles.Other = false

-- `if` or `elsif`
abbrev pub is_branch : Role → Bool
is_branch roles.Require = false
is_branch roles.If = true
is_branch roles.Elsif = true
is_branch roles.Else = false
is_branch roles.Other = false

-- `elsif` or `else`
abbrev pub goes_on : Role → Bool
goes_on roles.Require = false
goes_on roles.If = false
goes_on roles.Elsif = true
goes_on roles.Else = true
goes_on roles.Other = false

abbrev pub command_name : CommandTree → List ℕ
command_name (command name args inner finish) = name

abbrev pub is_block : EndingTree → Bool
is_block semicolon = false
is_block (block cs) = true

-- The flag says whether the command directly before, in the same block, is an `if` or `elsif`.
abbrev pub head_of : Bool → CommandTree → PlacedCommand
head_of follows (command name args inner finish) = record { word = command_named name; args = args; inner = inner; has_block = is_block finish; follows_branch = follows }

-- the commands in text order: a command comes before those of its block
abbrev mutual
  pub command_in_order : Bool → CommandTree → List PlacedCommand
  command_in_order follows (command name args inner finish) = head_of follows (command name args inner finish) ∷
      ending_in_order finish

  pub ending_in_order : EndingTree → List PlacedCommand
  ending_in_order semicolon = []
  ending_in_order (block cs) = in_order false cs

  pub in_order : Bool → CommandTrees → List PlacedCommand
  in_order follows no_commands = []
  in_order follows (command_then c cs) = command_in_order follows c ++
      in_order (is_branch (role_of (command_named (command_name c)))) cs

-- ---- what the commands before a command say

abbrev pub argument_strings : Argument → List (List ℕ)
argument_strings (arguments.Strings l) = strings_of l
argument_strings (arguments.Number n) = []
argument_strings (arguments.Tag name) = []

-- each string in arguments
abbrev pub strings_in : List Argument → List (List ℕ)
strings_in = flat_map argument_strings

-- whether this is a `require` that names the capability
abbrev pub requires : PlacedCommand → Capability → Bool
requires p c = is_require (role_of p.word) && list_any (λ s. names s c) (strings_in p.args)

-- the capabilities that the commands before name in a `require`
abbrev pub named_by : List PlacedCommand → Capability → Bool
named_by before c = list_any (λ p. requires p c) before

-- ---- the rules

-- 30: a `require` names an unknown capability (RFC 5228, section 3.2).
abbrev pub names_unknown : List Argument → Bool
names_unknown args = list_any (λ s. is_none (capability_named s)) (strings_in args)

-- 31: a `require` comes after a command other than `require`, wherever that one is (RFC 5228, section 3.2).
abbrev pub has_begun : List PlacedCommand → Bool
has_begun = list_any (λ p. not (is_require (role_of p.word)))

-- 34: a capability that the command, or one of its tags, needs is named in no `require` before it (RFC 5228,
-- section 2.10.5).
abbrev pub lacks : (Capability → Bool) → Option Capability → Bool
lacks has None = false
lacks has (Some c) = not (has c)

abbrev pub piece_lacks : (Capability → Bool) → PieceWord → Bool
piece_lacks has (tagged None c) = false
piece_lacks has (tagged (Some w) c) = lacks has w.needs
piece_lacks has (positional a) = false

abbrev pub lacks_capability : (Capability → Bool) → WordForm → List PieceWord → Bool
lacks_capability has form ps = lacks has form.needs || list_any (piece_lacks has) ps

-- 35: a tag that the table does not have there, or a tag after a positional argument (RFC 5228, section 2.6.2).
abbrev pub is_unknown_tag : PieceWord → Bool
is_unknown_tag (tagged None c) = true
is_unknown_tag (tagged (Some w) c) = false
is_unknown_tag (positional a) = false

-- whether a tag comes after those with which the arguments begin
abbrev pub tag_after : List PieceWord → Bool
tag_after ps = list_any is_tagged (drop (prefix_len is_tagged ps) ps)

abbrev pub has_wrong_tag : List PieceWord → Bool
has_wrong_tag ps = list_any is_unknown_tag ps || tag_after ps

-- 36: two tags of one kind, among them the same tag twice (RFC 5228, sections 2.6.2 and 2.7.1).
abbrev pub kind_place : TagKind → ℕ
kind_place kinds.Copy = 0
kind_place kinds.Comparator = 1
kind_place kinds.MatchType = 2
kind_place kinds.SizeLimit = 3
kind_place kinds.Location = 4
kind_place kinds.Once = 5
kind_place kinds.Optional = 6

abbrev pub same_kind : TagKind → TagKind → Bool
same_kind a b = kind_place a == kind_place b

abbrev pub has_kind : TagKind → PieceWord → Bool
has_kind k (tagged None c) = false
has_kind k (tagged (Some w) c) = same_kind k w.kind
has_kind k (positional a) = false

-- another piece of this kind comes after the first one
abbrev pub stands_twice : TagKind → List PieceWord → Bool
stands_twice k [] = false
stands_twice k (p ∷ ps) = if has_kind k p then list_any (has_kind k) ps else stands_twice k ps

abbrev pub has_tag_twice : WordForm → List PieceWord → Bool
has_tag_twice form ps = list_any (λ w. stands_twice w.kind ps) form.tags

-- 37: positional arguments of another number or kind than the table's (RFC 5228, section 2.6.1). Or a tag that names a
-- comparator, without a string outside brackets directly after it (section 2.7.3). Or none of the tags of which one is
-- required (section 5.9).
abbrev pub takes : Positional → Argument → Bool
takes places.OneString (arguments.Strings (string_lists.One s)) = true
takes places.OneString (arguments.Strings (string_lists.Listed s ss)) = false
takes places.OneString (arguments.Number n) = false
takes places.OneString (arguments.Tag name) = false
takes places.StringList (arguments.Strings l) = true
takes places.StringList (arguments.Number n) = false
takes places.StringList (arguments.Tag name) = false
takes places.OneNumber (arguments.Strings l) = false
takes places.OneNumber (arguments.Number n) = true
takes places.OneNumber (arguments.Tag name) = false

abbrev pub fits : WordForm → List PieceWord → Bool
fits form ps = pointwise takes form.positional (positional_arguments ps)

abbrev pub lacks_string : PieceWord → Bool
lacks_string (tagged None c) = false
lacks_string (tagged (Some w) None) = w.names_comparator
lacks_string (tagged (Some w) (Some s)) = false
lacks_string (positional a) = false

abbrev pub lacks_tag : Option TagKind → List PieceWord → Bool
lacks_tag None ps = false
lacks_tag (Some k) ps = not (list_any (has_kind k) ps)

abbrev pub has_wrong_arguments : WordForm → List PieceWord → Bool
has_wrong_arguments form ps = not (fits form ps) || (list_any lacks_string ps || lacks_tag form.needs_tag ps)

-- 38: an unknown comparator (RFC 5228, section 2.7.3).
abbrev pub is_unknown_comparator : PieceWord → Bool
is_unknown_comparator (tagged w None) = false
is_unknown_comparator (tagged w (Some s)) = not (list_any (λ t. same_text s t) comparator_table)
is_unknown_comparator (positional a) = false

-- 39: an `elsif` or `else` that does not directly follow an `if` or `elsif` of the same block (RFC 5228, section 3.1).
abbrev pub lacks_branch : Role → Bool → Bool
lacks_branch role follows = goes_on role && not follows

-- 40: a block where the table has none, or none where it has one (RFC 5228, sections 2.8 and 2.9).
abbrev pub has_wrong_ending : Bool → Bool → Bool
has_wrong_ending wanted there = if wanted then not there else there

-- 41: other tests than the table's (RFC 5228, sections 2.5 and 2.9). One test in parentheses is a list of tests.
abbrev pub tests_there : InnerTests → TestsForm
tests_there no_tests = NoTest
tests_there (one_test t) = OneTest
tests_there (listed_tests t row) = TestList

abbrev pub same_tests : TestsForm → TestsForm → Bool
same_tests NoTest NoTest = true
same_tests NoTest OneTest = false
same_tests NoTest TestList = false
same_tests OneTest NoTest = false
same_tests OneTest OneTest = true
same_tests OneTest TestList = false
same_tests TestList NoTest = false
same_tests TestList OneTest = false
same_tests TestList TestList = true

abbrev pub has_wrong_tests : TestsForm → InnerTests → Bool
has_wrong_tests wanted inner = not (same_tests wanted (tests_there inner))

-- ---- the numbers of the rules that are broken

-- whether a rule is broken, and the rule's number
abbrev pub Rule : Type 0
Rule = Bool × ℕ

abbrev pub breaches : List Rule → List ℕ
breaches [] = []
breaches (r ∷ rs) = if r.0 then r.1 ∷ breaches rs else breaches rs

-- the rules on what follows a name of the table, without the tests inside
abbrev pub form_rules : (Capability → Bool) → WordForm → List PieceWord → InnerTests → List Rule
form_rules has form ps inner = (lacks_capability has form ps, 34) ∷ (has_wrong_tag ps, 35) ∷
    (has_tag_twice form ps, 36) ∷ (has_wrong_arguments form ps, 37) ∷ (list_any is_unknown_comparator ps, 38) ∷
    (has_wrong_tests form.tests inner, 41) ∷ []

abbrev pub form_breaches : (Capability → Bool) → WordForm → List Argument → InnerTests → List ℕ
form_breaches has form args inner = breaches (form_rules has form (pieces form.tags args) inner)

-- 33: an unknown test (RFC 5228, section 2.10.5). Nothing else of it is judged, nor the tests inside it.
abbrev pub test_form_breaches : (Capability → Bool) → Option TestWord → List Argument → InnerTests → List ℕ → List ℕ
test_form_breaches has None args inner inside = 33 ∷ []
test_form_breaches has (Some w) args inner inside = form_breaches has w.form args inner ++ inside

-- for a test, with the tests inside it at any depth
abbrev mutual
  pub test_breaches : (Capability → Bool) → TestTree → List ℕ
  test_breaches has (test name args inner) = test_form_breaches has (test_named name) args inner
      (inner_breaches has inner)

  pub inner_breaches : (Capability → Bool) → InnerTests → List ℕ
  inner_breaches has no_tests = []
  inner_breaches has (one_test t) = test_breaches has t
  inner_breaches has (listed_tests t row) = test_breaches has t ++ row_breaches has row

  pub row_breaches : (Capability → Bool) → TestRow → List ℕ
  row_breaches has last_test = []
  row_breaches has (next_test t row) = test_breaches has t ++ row_breaches has row

-- the rules on the place of a command, on what a `require` names and on how a command ends
abbrev pub place_rules : Bool → CommandWord → PlacedCommand → List Rule
place_rules begun w p = (is_require w.role && names_unknown p.args, 30) ∷ (is_require w.role && begun, 31) ∷
    (lacks_branch w.role p.follows_branch, 39) ∷ (has_wrong_ending w.has_block p.has_block, 40) ∷ []

-- 32: an unknown command (RFC 5228, section 2.10.5). Nothing else of it is judged. `has` knows the capabilities named
-- before, and `begun` whether a command other than `require` comes before.
abbrev pub place_breaches : (Capability → Bool) → Bool → Option CommandWord → PlacedCommand → List ℕ
place_breaches has begun None p = 32 ∷ []
place_breaches has begun (Some w) p = breaches (place_rules begun w p) ++
    (form_breaches has w.form p.args p.inner ++ inner_breaches has p.inner)

-- the numbers of the rules that a command breaks after these commands
abbrev pub command_breaches : List PlacedCommand → PlacedCommand → List ℕ
command_breaches before p = place_breaches (named_by before) (has_begun before) p.word p

-- ---- the refusal

abbrev pub lesser : Option ℕ → Option ℕ → Option ℕ
lesser None b = b
lesser (Some m) None = Some m
lesser (Some m) (Some n) = Some (min m n)

abbrev pub least : List ℕ → Option ℕ
least [] = None
least (n ∷ ns) = lesser (Some n) (least ns)

abbrev pub earlier : Option ℕ → Option ℕ → Option ℕ
earlier None later = later
earlier (Some n) later = Some n

-- the least number of the first command that breaks a rule
unfoldable pub refusal_from : List PlacedCommand → List PlacedCommand → Option ℕ
refusal_from before [] = None
refusal_from before (p ∷ ps) = earlier (least (command_breaches before p)) (refusal_from (before ++ p ∷ []) ps)

-- The refusal of a script: the least number of the rules that the first faulty command breaks, in text order, or
-- None where no command breaks a rule (RFC 5228, section 2.10.6: a faulty script is refused as a whole).
unfoldable pub refusal_of : CommandTrees → Option ℕ
refusal_of tree = refusal_from [] (in_order false tree)
