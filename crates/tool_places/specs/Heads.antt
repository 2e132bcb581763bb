-- The names of the commands and tests of a script (RFC 5228, section 8.2), among its tokens and in its tree.
use Rattle.std.specs.Prelude.{◌≡◌, ℕ, List, [], ◌∷◌, ◌++◌, Bool, true, false, map, filter}
use Rattle.sieve_syntax.specs.declared.token.Token.{Token}
use Rattle.sieve_syntax.specs.declared.token.TokenKind.{TokenKind}
use Rattle.sieve_syntax.specs.declared.token.TokenKind.TheVariants as tokens
use Rattle.sieve_syntax.specs.Tree.{TestTree, test, InnerTests, no_tests, one_test, listed_tests, TestRow, last_test, next_test, CommandTree, command, EndingTree, semicolon, block, CommandTrees, no_commands, command_then}
use Rattle.sieve_text.specs.Grammar.{kinds, Spells}
use Rattle.sieve_text.specs.Tokens.{IsScan}

-- whether a token is a name
abbrev pub is_name : TokenKind → Bool
is_name (tokens.Identifier name) = true
is_name (tokens.Tag name) = false
is_name (tokens.Number n) = false
is_name (tokens.StringValue s) = false
is_name (tokens.Mark m) = false

-- the tokens that are names
abbrev pub named : List Token → List Token
named ts = filter (λ (t : Token). is_name t.kind) ts

-- the offsets at which they begin
abbrev pub starts_of : List Token → List ℕ
starts_of ts = map (λ (t : Token). t.start) (named ts)

-- the offsets at which the names of a text begin
abbrev pub AreHeads : List ℕ → List ℕ → Type 0
AreHeads script offsets = (ts : List Token) × IsScan script ts × (offsets ≡ starts_of ts)

-- the names among tokens
abbrev pub name_and : TokenKind → List (List ℕ) → List (List ℕ)
name_and (tokens.Identifier name) more = name ∷ more
name_and (tokens.Tag name) more = more
name_and (tokens.Number n) more = more
name_and (tokens.StringValue s) more = more
name_and (tokens.Mark m) more = more

abbrev pub names_among : List TokenKind → List (List ℕ)
names_among [] = []
names_among (t ∷ ts) = name_and t (names_among ts)

-- the names of a tree: a command, then its tests, then its block
abbrev mutual
  pub test_names : TestTree → List (List ℕ)
  test_names (test name args inner) = name ∷ inner_names inner

  pub inner_names : InnerTests → List (List ℕ)
  inner_names no_tests = []
  inner_names (one_test t) = test_names t
  inner_names (listed_tests t row) = test_names t ++ row_names row

  pub row_names : TestRow → List (List ℕ)
  row_names last_test = []
  row_names (next_test t row) = test_names t ++ row_names row

abbrev mutual
  pub command_names : CommandTree → List (List ℕ)
  command_names (command name args inner finish) = name ∷ (inner_names inner ++ ending_names finish)

  pub ending_names : EndingTree → List (List ℕ)
  ending_names semicolon = []
  ending_names (block cs) = commands_names cs

  pub commands_names : CommandTrees → List (List ℕ)
  commands_names no_commands = []
  commands_names (command_then c cs) = command_names c ++ commands_names cs

-- the names among the tokens of a script are those of its tree, one for each
abbrev pub HeadsAreNamed : Type 0
HeadsAreNamed = (script : List ℕ) (ts : List Token) (t : CommandTrees) → IsScan script ts → Spells script t →
    names_among (kinds (named ts)) ≡ commands_names t
