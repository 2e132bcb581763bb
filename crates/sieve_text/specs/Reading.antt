-- The grammar of RFC 5228, section 8.2, read from left to right. Each reader gives what it read and the tokens after
-- that. The parser's functions are proved against these first; the contracts for their callers use only the spelling of
-- trees.
use Rattle.std.specs.Prelude.{◌≡◌, ℕ, zero, suc, List, [], ◌∷◌, ◌++◌, length, Option, Some, None, Result, Ok, Err}
use Rattle.sieve_syntax.specs.declared.tree.StringList.{StringList}
use Rattle.sieve_syntax.specs.declared.tree.StringList.TheVariants as string_lists
use Rattle.sieve_syntax.specs.declared.tree.Argument.{Argument}
use Rattle.sieve_syntax.specs.declared.tree.Argument.TheVariants as arguments
use Rattle.sieve_syntax.specs.declared.token.Mark.TheVariants.{Semicolon, OpenBrace, CloseBrace, OpenParen, CloseParen, OpenBracket, CloseBracket, Comma}
use Rattle.sieve_syntax.specs.declared.token.TokenKind.{TokenKind}
use Rattle.sieve_syntax.specs.declared.token.TokenKind.TheVariants as tokens
use Rattle.sieve_syntax.specs.Tree.{TestTree, test, InnerTests, no_tests, one_test, listed_tests, CommandTree, command, EndingTree, semicolon, block, CommandTrees}
use Rattle.sieve_syntax.specs.declared.tree.Script.{Script}
use Rattle.sieve_syntax.specs.View.{row_of, commands_of, tree_of}
use Rattle.sieve_text.specs.declared.fault.TextRefusal.TheVariants as refusals
use Rattle.sieve_text.specs.declared.fault.TextFault.{TextFault}
use Rattle.sieve_text.specs.declared.fault.TextFault.TheVariants as faults
use Rattle.sieve_text.specs.declared.parser.stop.Misfit.{Misfit}
use Rattle.sieve_text.specs.declared.parser.stop.Misfit.TheVariants.{Syntax, Nesting}
use Rattle.sieve_text.specs.declared.parser.stop.Stop.{Stop}
use Rattle.sieve_text.specs.declared.parser.stop.Stop.TheVariants.{NoMemory, Refused}

infixl 10 ◌>>=◌
abbrev pub ◌>>=◌ : {A B : Type 0} → Result A Misfit → (A → Result B Misfit) → Result B Misfit
(Ok x) >>= f = f x
(Err e) >>= f = Err e

-- running out of memory says nothing of what is read
abbrev pub Fails : {Y : Type 0} → Stop → Result Y Misfit → Type 0
Fails NoMemory read = Unit {0}
Fails (Refused misfit left) read = read ≡ Err misfit

-- the code gives what is read, as seen through the view
abbrev pub Gives : {X Y : Type 0} → (X → Y) → Result X Stop → Result Y Misfit → Type 0
Gives view (Ok x) read = read ≡ Ok (view x)
Gives view (Err e) read = Fails e read

-- a thing, and the tokens after it
abbrev pub Reads : Type 0 → Type 0
Reads A = List TokenKind → Result (A × List TokenKind) Misfit

-- a thing, where the tokens begin with one
abbrev pub Tries : Type 0 → Type 0
Tries A = List TokenKind → Result (Option (A × List TokenKind)) Misfit

abbrev pub many_with : {A : Type 0} → Reads (List A) → List TokenKind → Option (A × List TokenKind) → Result
    (List A × List TokenKind) Misfit
many_with more ts None = Ok ([], ts)
many_with more ts (Some a) = more a.1 >>= λ x. Ok (a.0 ∷ x.0, x.1)

-- things for as long as the tokens begin with one. The number bounds how many; the number of the tokens is enough.
unfoldable pub many_at : {A : Type 0} → Tries A → ℕ → Reads (List A)
many_at read zero ts = Ok ([], ts)
many_at read (suc n) ts = read ts >>= many_with (many_at read n) ts

-- what was read before, and then what is read now
abbrev pub with_before : {A : Type 0} → List A → Result (List A × List TokenKind) Misfit → Result
    (List A × List TokenKind) Misfit
with_before before r = r >>= λ x. Ok (before ++ x.0, x.1)

-- a thing after a comma
abbrev pub next_with : {A : Type 0} → Reads A → Tries A
next_with read [] = Ok None
next_with read (tokens.Mark Comma ∷ ts) = read ts >>= λ x. Ok (Some x)
next_with read (t ∷ ts) = Ok None

abbrev pub string_at : Reads (List ℕ)
string_at [] = Err Syntax
string_at (tokens.StringValue s ∷ ts) = Ok (s, ts)
string_at (t ∷ ts) = Err Syntax

abbrev pub after_bracket : List TokenKind → Result (List TokenKind) Misfit
after_bracket [] = Err Syntax
after_bracket (tokens.Mark CloseBracket ∷ ts) = Ok ts
after_bracket (t ∷ ts) = Err Syntax

abbrev pub after_paren : List TokenKind → Result (List TokenKind) Misfit
after_paren [] = Err Syntax
after_paren (tokens.Mark CloseParen ∷ ts) = Ok ts
after_paren (t ∷ ts) = Err Syntax

abbrev pub after_brace : List TokenKind → Result (List TokenKind) Misfit
after_brace [] = Err Syntax
after_brace (tokens.Mark CloseBrace ∷ ts) = Ok ts
after_brace (t ∷ ts) = Err Syntax

unfoldable pub other_strings_at : Reads (List (List ℕ))
other_strings_at ts = many_at (next_with string_at) (length ts) ts

-- the strings of a list, after its opening bracket
unfoldable pub string_list_at : Reads StringList
string_list_at ts =
    string_at ts >>= λ first.
    other_strings_at first.1 >>= λ others.
    after_bracket others.1 >>= λ rest.
    Ok (string_lists.Listed first.0 others.0, rest)

unfoldable pub argument_at : Tries Argument
argument_at [] = Ok None
argument_at (tokens.Tag name ∷ ts) = Ok (Some (arguments.Tag name, ts))
argument_at (tokens.Number n ∷ ts) = Ok (Some (arguments.Number n, ts))
argument_at (tokens.StringValue s ∷ ts) = Ok (Some (arguments.Strings (string_lists.One s), ts))
argument_at (tokens.Mark OpenBracket ∷ ts) = string_list_at ts >>= λ l. Ok (Some (arguments.Strings l.0, l.1))
argument_at (t ∷ ts) = Ok None

unfoldable pub arguments_at : Reads (List Argument)
arguments_at ts = many_at argument_at (length ts) ts

-- the tests of a list, after its opening parenthesis
abbrev pub test_list_with : Reads TestTree → Reads InnerTests
test_list_with read ts =
    read ts >>= λ first.
    many_at (next_with read) (length first.1) first.1 >>= λ others.
    after_paren others.1 >>= λ rest.
    Ok (listed_tests first.0 (row_of others.0), rest)

abbrev pub inner_with : Reads TestTree → Reads InnerTests
inner_with read [] = Ok (no_tests, [])
inner_with read (tokens.Identifier n ∷ ts) = read (tokens.Identifier n ∷ ts) >>= λ t. Ok (one_test t.0, t.1)
inner_with read (tokens.Mark OpenParen ∷ ts) = test_list_with read ts
inner_with read (t ∷ ts) = Ok (no_tests, t ∷ ts)

abbrev pub test_with : Reads InnerTests → Reads TestTree
test_with read [] = Err Syntax
test_with read (tokens.Identifier n ∷ ts) =
    arguments_at ts >>= λ args.
    read args.1 >>= λ inner.
    Ok (test n args.0 inner.0, inner.1)
test_with read (t ∷ ts) = Err Syntax

-- a test that would be nested one too deep
abbrev pub refused_at : Reads TestTree
refused_at [] = Err Syntax
refused_at (tokens.Identifier n ∷ ts) = Err Nesting
refused_at (t ∷ ts) = Err Syntax

-- a test with at most this number of nested tests
unfoldable pub test_at : ℕ → Reads TestTree
test_at zero = refused_at
test_at (suc d) = test_with (inner_with (test_at d))

-- the ending of a command, by what is read after an opening brace
abbrev pub ending_with : Reads CommandTrees → Reads EndingTree
ending_with read [] = Err Syntax
ending_with read (tokens.Mark Semicolon ∷ ts) = Ok (semicolon, ts)
ending_with read (tokens.Mark OpenBrace ∷ ts) =
    read ts >>= λ cs.
    after_brace cs.1 >>= λ rest.
    Ok (block cs.0, rest)
ending_with read (t ∷ ts) = Err Syntax

abbrev pub command_with : ℕ → Reads CommandTrees → Tries CommandTree
command_with depth read [] = Ok None
command_with depth read (tokens.Identifier n ∷ ts) =
    arguments_at ts >>= λ args.
    inner_with (test_at depth) args.1 >>= λ inner.
    ending_with read inner.1 >>= λ finish.
    Ok (Some (command n args.0 inner.0 finish.0, finish.1))
command_with depth read (t ∷ ts) = Ok None

abbrev pub commands_with : ℕ → Reads CommandTrees → Reads CommandTrees
commands_with depth read ts =
    many_at (command_with depth read) (length ts) ts >>= λ cs.
    Ok (commands_of cs.0, cs.1)

-- the commands of a block, with at most these numbers of nested tests and nested blocks, that block counted
unfoldable pub inside_at : ℕ → ℕ → Reads CommandTrees
inside_at depth zero = λ ts. Err Nesting
inside_at depth (suc blocks) = commands_with depth (inside_at depth blocks)

abbrev pub whole_of : CommandTrees × List TokenKind → Result CommandTrees Misfit
whole_of (cs, []) = Ok cs
whole_of (cs, t ∷ ts) = Err Syntax

-- all of the tokens
unfoldable pub script_at : ℕ → ℕ → List TokenKind → Result CommandTrees Misfit
script_at depth blocks ts = commands_with depth (inside_at depth blocks) ts >>= whole_of

-- a script or a refusal is what is read, unless memory ran out
abbrev pub GivesScript : Result Script TextFault → Result CommandTrees Misfit → Type 0
GivesScript (Ok s) read = read ≡ Ok (tree_of s)
GivesScript (Err faults.NoMemory) read = Unit {0}
GivesScript (Err (faults.Refused (refusals.Scan r) at)) read = ⊥
GivesScript (Err (faults.Refused refusals.Syntax at)) read = read ≡ Err Syntax
GivesScript (Err (faults.Refused refusals.Nesting at)) read = read ≡ Err Nesting
