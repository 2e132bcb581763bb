-- The grammar on worked examples: tokens, and what is read of them.
use Rattle.std.proofs.Common.{◌≡◌, ℕ, List, [], ◌∷◌, Ok, Err, refl}
use Rattle.sieve_syntax.specs.declared.tree.StringList.TheVariants as string_lists
use Rattle.sieve_syntax.specs.declared.tree.Argument.TheVariants as arguments
use Rattle.sieve_syntax.specs.declared.token.Mark.TheVariants.{Semicolon, OpenBrace, CloseBrace, OpenParen, CloseParen}
use Rattle.sieve_syntax.specs.declared.token.Mark.TheVariants.{OpenBracket, CloseBracket, Comma}
use Rattle.sieve_syntax.specs.declared.token.TokenKind.TheVariants.{Identifier, Tag, Number, StringValue, Mark}
use Rattle.sieve_syntax.specs.Tree.{test, no_tests, one_test, listed_tests, last_test, next_test, command, semicolon}
use Rattle.sieve_syntax.specs.Tree.{block, no_commands, command_then}
use Rattle.sieve_text.specs.declared.parser.stop.Misfit.TheVariants.{Syntax, Nesting}
use Rattle.sieve_text.specs.Reading.{many_at, other_strings_at, string_list_at, argument_at, arguments_at, test_at, inside_at, script_at}

-- a :b 5 ["c", "d"];
arguments_row : (a b c d : List ℕ)
    → script_at 32 32 (Identifier a ∷ Tag b ∷ Number 5 ∷ Mark OpenBracket ∷ StringValue c ∷ Mark Comma ∷ StringValue d
    ∷ Mark CloseBracket ∷ Mark Semicolon ∷ [])
    ≡ Ok (command_then (command a (arguments.Tag b ∷ arguments.Number 5
    ∷ arguments.Strings (string_lists.Listed c (d ∷ [])) ∷ []) no_tests semicolon) no_commands)
unfolding many_at other_strings_at string_list_at argument_at arguments_at test_at inside_at script_at
arguments_row a b c d = refl

-- a b (c, d e) { f; } g;
tests_row : (a b c d e f g : List ℕ)
    → script_at 2 1 (Identifier a ∷ Identifier b ∷ Mark OpenParen ∷ Identifier c ∷ Mark Comma ∷ Identifier d
    ∷ Identifier e ∷ Mark CloseParen ∷ Mark OpenBrace ∷ Identifier f ∷ Mark Semicolon ∷ Mark CloseBrace ∷ Identifier g
    ∷ Mark Semicolon ∷ [])
    ≡ Err Nesting
unfolding many_at other_strings_at string_list_at argument_at arguments_at test_at inside_at script_at
tests_row a b c d e f g = refl

-- the same with one more test allowed
deeper_row : (a b c d e f g : List ℕ)
    → script_at 3 1 (Identifier a ∷ Identifier b ∷ Mark OpenParen ∷ Identifier c ∷ Mark Comma ∷ Identifier d
    ∷ Identifier e ∷ Mark CloseParen ∷ Mark OpenBrace ∷ Identifier f ∷ Mark Semicolon ∷ Mark CloseBrace ∷ Identifier g
    ∷ Mark Semicolon ∷ [])
    ≡ Ok (command_then
    (command a [] (one_test
    (test b [] (listed_tests (test c [] no_tests) (next_test (test d [] (one_test (test e [] no_tests)))
    last_test)))) (block (command_then (command f [] no_tests semicolon) no_commands)))
    (command_then (command g [] no_tests semicolon) no_commands))
unfolding many_at other_strings_at string_list_at argument_at arguments_at test_at inside_at script_at
deeper_row a b c d e f g = refl

-- a ["b",];
comma_row : (a b : List ℕ)
    → script_at 32 32 (Identifier a ∷ Mark OpenBracket ∷ StringValue b ∷ Mark Comma ∷ Mark CloseBracket ∷ Mark Semicolon
    ∷ []) ≡ Err Syntax
unfolding many_at other_strings_at string_list_at argument_at arguments_at test_at inside_at script_at
comma_row a b = refl

-- a { b { } } with one block allowed
block_row : (a b : List ℕ)
    → script_at 32 1 (Identifier a ∷ Mark OpenBrace ∷ Identifier b ∷ Mark OpenBrace ∷ Mark CloseBrace ∷ Mark CloseBrace
    ∷ []) ≡ Err Nesting
unfolding many_at other_strings_at string_list_at argument_at arguments_at test_at inside_at script_at
block_row a b = refl
