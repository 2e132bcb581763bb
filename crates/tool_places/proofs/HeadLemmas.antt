-- The names among the tokens of a tree are the tree's, in its order.
use Rattle.std.proofs.Common.{◌≡◌, ℕ, List, [], ◌∷◌, ◌++◌, Bool, true, false, cond, map, filter, refl, sym, ap, ◌∙◌}
use Rattle.std.proofs.lemmas.List.{append-nil}
use Rattle.sieve_syntax.specs.declared.token.Token.{Token}
use Rattle.sieve_syntax.specs.declared.token.TokenKind.{TokenKind}
use Rattle.sieve_syntax.specs.declared.token.TokenKind.TheVariants as tokens
use Rattle.sieve_syntax.specs.declared.token.Mark.TheVariants.{CloseBrace}
use Rattle.sieve_syntax.specs.declared.tree.StringList.{StringList}
use Rattle.sieve_syntax.specs.declared.tree.StringList.TheVariants as string_lists
use Rattle.sieve_syntax.specs.declared.tree.Argument.{Argument}
use Rattle.sieve_syntax.specs.declared.tree.Argument.TheVariants as arguments
use Rattle.sieve_syntax.specs.Tree.{TestTree, test, InnerTests, no_tests, one_test, listed_tests, TestRow, last_test}
use Rattle.sieve_syntax.specs.Tree.{next_test, CommandTree, command, EndingTree, semicolon, block, CommandTrees}
use Rattle.sieve_syntax.specs.Tree.{no_commands, command_then, other_string_tokens, string_list_tokens, argument_tokens}
use Rattle.sieve_syntax.specs.Tree.{arguments_tokens, test_tokens, inner_tokens, row_tokens, command_tokens}
use Rattle.sieve_syntax.specs.Tree.{ending_tokens, commands_tokens}
use Rattle.sieve_text.specs.Grammar.{kinds, Spells}
use Rattle.sieve_text.specs.Tokens.{IsScan}
use Rattle.sieve_text.proofs.ScanLemmas.{one_scan}
use Rattle.tool_places.specs.Heads.{is_name, named, name_and, names_among, test_names, inner_names, row_names}
use Rattle.tool_places.specs.Heads.{command_names, ending_names, commands_names, HeadsAreNamed}

join : {X : Type 0} {a b c d : List X} → a ≡ b → c ≡ d → a ++ c ≡ b ++ d
join e f = rw (e, f) refl

name_and-append : (t : TokenKind) (xs ys : List (List ℕ)) → name_and t (xs ++ ys) ≡ name_and t xs ++ ys
name_and-append (tokens.Identifier name) xs ys = refl
name_and-append (tokens.Tag name) xs ys = refl
name_and-append (tokens.Number n) xs ys = refl
name_and-append (tokens.StringValue s) xs ys = refl
name_and-append (tokens.Mark m) xs ys = refl

names_among-append : (xs ys : List TokenKind) → names_among (xs ++ ys) ≡ names_among xs ++ names_among ys
names_among-append [] ys = refl
names_among-append (t ∷ ts) ys = ap (name_and t) (names_among-append ts ys) ∙ name_and-append t (names_among ts) (names_among ys)

-- arguments have no names
strings_unnamed : (ss : List (List ℕ)) → names_among (other_string_tokens ss) ≡ []
strings_unnamed [] = refl
strings_unnamed (s ∷ ss) = strings_unnamed ss

list_unnamed : (l : StringList) → names_among (string_list_tokens l) ≡ []
list_unnamed (string_lists.One s) = refl
list_unnamed (string_lists.Listed s ss) = strings_unnamed ss

argument_unnamed : (a : Argument) → names_among (argument_tokens a) ≡ []
argument_unnamed (arguments.Strings l) = list_unnamed l
argument_unnamed (arguments.Number n) = refl
argument_unnamed (arguments.Tag name) = refl

arguments_unnamed : (args : List Argument) → names_among (arguments_tokens args) ≡ []
arguments_unnamed [] = refl
arguments_unnamed (a ∷ args) = names_among-append (argument_tokens a) (arguments_tokens args) ∙ join (argument_unnamed a) (arguments_unnamed args)

past_arguments : (args : List Argument) (ts : List TokenKind) → names_among (arguments_tokens args ++ ts) ≡ names_among ts
past_arguments args ts = names_among-append (arguments_tokens args) ts ∙ ap (λ ns. ns ++ names_among ts) (arguments_unnamed args)

mutual
  test_named : (t : TestTree) → names_among (test_tokens t) ≡ test_names t
  test_named (test name args inner) = ap (λ ns. name ∷ ns) (past_arguments args (inner_tokens inner) ∙ inner_named inner)

  inner_named : (i : InnerTests) → names_among (inner_tokens i) ≡ inner_names i
  inner_named no_tests = refl
  inner_named (one_test t) = test_named t
  inner_named (listed_tests t row) = names_among-append (test_tokens t) (row_tokens row) ∙ join (test_named t) (row_named row)

  row_named : (r : TestRow) → names_among (row_tokens r) ≡ row_names r
  row_named last_test = refl
  row_named (next_test t row) = names_among-append (test_tokens t) (row_tokens row) ∙ join (test_named t) (row_named row)

mutual
  command_named : (c : CommandTree) → names_among (command_tokens c) ≡ command_names c
  command_named (command name args inner finish) =
      ap (λ ns. name ∷ ns) (past_arguments args (inner_tokens inner ++ ending_tokens finish)
      ∙ names_among-append (inner_tokens inner) (ending_tokens finish) ∙ join (inner_named inner) (ending_named finish))

  ending_named : (e : EndingTree) → names_among (ending_tokens e) ≡ ending_names e
  ending_named semicolon = refl
  ending_named (block cs) = names_among-append (commands_tokens cs) (tokens.Mark CloseBrace ∷ [])
      ∙ append-nil (names_among (commands_tokens cs)) ∙ commands_named cs

  commands_named : (cs : CommandTrees) → names_among (commands_tokens cs) ≡ commands_names cs
  commands_named no_commands = refl
  commands_named (command_then c cs) = names_among-append (command_tokens c) (commands_tokens cs) ∙ join (command_named c) (commands_named cs)

-- tokens that are no names may be left out
kinds-cond : (b : Bool) (t : Token) (ts : List Token) → kinds (cond b (t ∷ ts) ts) ≡ cond b (t.kind ∷ kinds ts) (kinds ts)
kinds-cond true t ts = refl
kinds-cond false t ts = refl

by_kind : (k : TokenKind) (kept all : List TokenKind) → names_among kept ≡ names_among all
    → names_among (cond (is_name k) (k ∷ kept) kept) ≡ name_and k (names_among all)
by_kind (tokens.Identifier name) kept all h = ap (λ ns. name ∷ ns) h
by_kind (tokens.Tag name) kept all h = h
by_kind (tokens.Number n) kept all h = h
by_kind (tokens.StringValue s) kept all h = h
by_kind (tokens.Mark m) kept all h = h

names_kept : (ts : List Token) → names_among (kinds (named ts)) ≡ names_among (kinds ts)
names_kept [] = refl
names_kept (t ∷ ts) = ap names_among (kinds-cond (is_name t.kind) t (named ts)) ∙ by_kind t.kind (kinds (named ts)) (kinds ts) (names_kept ts)

pub heads_named : HeadsAreNamed
heads_named script ts t scanned s = names_kept ts
    ∙ ap (λ us. names_among (kinds us)) (one_scan script ts s.0 scanned s.1) ∙ ap names_among s.2 ∙ commands_named t
