-- Scripts and their refusals, which the definitions compute.
use Rattle.std.proofs.Common.{◌≡◌, ℕ, List, [], ◌∷◌, map, Option, Some, None, refl}
use Prim.Native.String.{String}
use Rattle.std.specs.Prelude.{codes}
use Rattle.sieve_syntax.specs.declared.tree.StringList.TheVariants as string_lists
use Rattle.sieve_syntax.specs.declared.tree.Argument.{Argument}
use Rattle.sieve_syntax.specs.declared.tree.Argument.TheVariants as arguments
use Rattle.sieve_syntax.specs.Tree.{TestTree, test, InnerTests, no_tests, one_test, listed_tests, last_test, next_test, CommandTree, command}
use Rattle.sieve_syntax.specs.Tree.{semicolon, block, CommandTrees, no_commands, command_then}
use Rattle.sieve_check.specs.Lookup.{same_name, same_text}
use Rattle.sieve_check.specs.Rules.{refusal_of, refusal_from}

abbrev one : String → Argument
one s = arguments.Strings (string_lists.One (codes s))

abbrev many : String → List String → Argument
many s ss = arguments.Strings (string_lists.Listed (codes s) (map codes ss))

abbrev tag : String → Argument
tag name = arguments.Tag (codes name)

abbrev asks : String → List Argument → TestTree
asks name args = test (codes name) args no_tests

-- a command that ends in a semicolon, and has no test
abbrev says : String → List Argument → CommandTree
says name args = command (codes name) args no_tests semicolon

abbrev script : List CommandTree → CommandTrees
script [] = no_commands
script (c ∷ cs) = command_then c (script cs)

-- a command with a block, and no arguments
abbrev under : String → InnerTests → List CommandTree → CommandTree
under name tests cs = command (codes name) [] tests (block (script cs))

-- each script, and the number of its refusal
abbrev rows : List (CommandTrees × Option ℕ)
rows =
    -- keep; require "fileinto";
    (script (says "keep" [] ∷ says "require" (one "fileinto" ∷ []) ∷ []), Some 31) ∷
    -- redirect "a@b";
    (script (says "redirect" (one "a@b" ∷ []) ∷ []), Some 32) ∷
    -- fileinto "x";
    (script (says "fileinto" (one "x" ∷ []) ∷ []), Some 34) ∷
    -- if true { keep; } keep; else { stop; }
    (
      script (under "if" (one_test (asks "true" [])) (says "keep" [] ∷ []) ∷ says "keep" []
          ∷ under "else" no_tests (says "stop" [] ∷ []) ∷ []),
      Some 39,
    ) ∷
    -- if not (true) {}
    (script (under "if" (one_test (test (codes "not") [] (listed_tests (asks "true" []) last_test))) [] ∷ []), Some 41) ∷
    -- if {}
    (script (under "if" no_tests [] ∷ []), Some 41) ∷
    -- if true;
    (script (command (codes "if") [] (one_test (asks "true" [])) semicolon ∷ []), Some 40) ∷
    -- keep {}
    (script (under "keep" no_tests [] ∷ []), Some 40) ∷
    -- if header "a" {}
    (script (under "if" (one_test (asks "header" (one "a" ∷ []))) [] ∷ []), Some 37) ∷
    -- if size 5 {}
    (script (under "if" (one_test (asks "size" (arguments.Number 5 ∷ []))) [] ∷ []), Some 37) ∷
    -- if header :is :contains "a" "b" {}
    (script (under "if" (one_test (asks "header" (tag "is" ∷ tag "contains" ∷ one "a" ∷ one "b" ∷ []))) [] ∷ []), Some 36) ∷
    -- if header "a" :is "b" {}
    (script (under "if" (one_test (asks "header" (one "a" ∷ tag "is" ∷ one "b" ∷ []))) [] ∷ []), Some 35) ∷
    -- if header :comparator "i;ascii" "a" "b" {}
    (script (under "if" (one_test (asks "header" (tag "comparator" ∷ one "i;ascii" ∷ one "a" ∷ one "b" ∷ []))) [] ∷ []), Some 38) ∷
    -- if body :text "a" {}
    (script (under "if" (one_test (asks "body" (tag "text" ∷ one "a" ∷ []))) [] ∷ []), Some 33) ∷
    -- require "fileinto"; fileinto :copy "a";
    (script (says "require" (one "fileinto" ∷ []) ∷ says "fileinto" (tag "copy" ∷ one "a" ∷ []) ∷ []), Some 34) ∷
    -- require "vacation";
    (script (says "require" (one "vacation" ∷ []) ∷ []), Some 30) ∷
    -- return;
    (script (says "return" [] ∷ []), Some 34) ∷
    -- require "foo" "bar";
    (script (says "require" (one "foo" ∷ one "bar" ∷ []) ∷ []), Some 30) ∷
    -- keep; require;
    (script (says "keep" [] ∷ says "require" [] ∷ []), Some 31) ∷
    -- if true { require "fileinto"; }
    (script (under "if" (one_test (asks "true" [])) (says "require" (one "fileinto" ∷ []) ∷ []) ∷ []), Some 31) ∷
    -- keep :copy;
    (script (says "keep" (tag "copy" ∷ []) ∷ []), Some 35) ∷
    -- require "fileinto"; fileinto "a" :copy;
    (script (says "require" (one "fileinto" ∷ []) ∷ says "fileinto" (one "a" ∷ tag "copy" ∷ []) ∷ []), Some 34) ∷
    -- keep body;
    (script (command (codes "keep") [] (one_test (asks "body" [])) semicolon ∷ []), Some 33) ∷
    -- foo body;
    (script (command (codes "foo") [] (one_test (asks "body" [])) semicolon ∷ []), Some 32) ∷
    -- if body (foo) {}
    (script (under "if" (one_test (test (codes "body") [] (listed_tests (asks "foo" []) last_test))) [] ∷ []), Some 33) ∷
    -- if (true, body) {}
    (script (under "if" (listed_tests (asks "true" []) (next_test (asks "body" []) last_test)) [] ∷ []), Some 33) ∷
    -- if :foo body {}
    (script (command (codes "if") (tag "foo" ∷ []) (one_test (asks "body" [])) (block (script [])) ∷ []), Some 33) ∷
    -- if header :comparator ["x"] :is "a" {}
    (script (under "if" (one_test (asks "header" (tag "comparator" ∷ many "x" [] ∷ tag "is" ∷ one "a" ∷ []))) [] ∷ []), Some 35) ∷
    -- if header :comparator "x" "a" {}
    (script (under "if" (one_test (asks "header" (tag "comparator" ∷ one "x" ∷ one "a" ∷ []))) [] ∷ []), Some 37) ∷
    -- if exists :comparator "i;octet" "a" {}
    (script (under "if" (one_test (asks "exists" (tag "comparator" ∷ one "i;octet" ∷ one "a" ∷ []))) [] ∷ []), Some 35) ∷
    -- if true {} else {} else {}
    (script (under "if" (one_test (asks "true" [])) [] ∷ under "else" no_tests [] ∷ under "else" no_tests [] ∷ []), Some 39) ∷
    -- if true {} else {} elsif true {}
    (script (under "if" (one_test (asks "true" [])) [] ∷ under "else" no_tests [] ∷ under "elsif" (one_test (asks "true" [])) [] ∷ []), Some 39) ∷
    -- if size 5 :over {}
    (script (under "if" (one_test (asks "size" (arguments.Number 5 ∷ tag "over" ∷ []))) [] ∷ []), Some 35) ∷
    -- if allof true {}
    (script (under "if" (one_test (test (codes "allof") [] (one_test (asks "true" [])))) [] ∷ []), Some 41) ∷
    -- fileinto "x"; require "fileinto";
    (script (says "fileinto" (one "x" ∷ []) ∷ says "require" (one "fileinto" ∷ []) ∷ []), Some 34) ∷
    -- require "fileinto"; fileinto ["a", "b"];
    (script (says "require" (one "fileinto" ∷ []) ∷ says "fileinto" (many "a" ("b" ∷ []) ∷ []) ∷ []), Some 37) ∷
    -- require "include"; include :personal :global "a";
    (script (says "require" (one "include" ∷ []) ∷ says "include" (tag "personal" ∷ tag "global" ∷ one "a" ∷ []) ∷ []), Some 36) ∷
    -- require "include"; include :once :ONCE "a";
    (script (says "require" (one "include" ∷ []) ∷ says "include" (tag "once" ∷ tag "ONCE" ∷ one "a" ∷ []) ∷ []), Some 36) ∷
    -- keep {} redirect;
    (script (under "keep" no_tests [] ∷ says "redirect" [] ∷ []), Some 40) ∷
    -- redirect; keep {}
    (script (says "redirect" [] ∷ under "keep" no_tests [] ∷ []), Some 32) ∷
    -- keep { redirect; }
    (script (under "keep" no_tests (says "redirect" [] ∷ []) ∷ []), Some 40) ∷
    -- keep "a" {}
    (script (command (codes "keep") (one "a" ∷ []) no_tests (block (script [])) ∷ []), Some 37) ∷
    -- if header :comparator "I;OCTET" "a" "b" {}
    (script (under "if" (one_test (asks "header" (tag "comparator" ∷ one "I;OCTET" ∷ one "a" ∷ one "b" ∷ []))) [] ∷ []), Some 38) ∷
    -- the empty script
    (script [], None) ∷
    -- require ["fileinto", "copy", "include"]; if header :Contains "subject" "invoice" { fileinto :copy "finance"; } ELSIF
    -- anyof (size :over 5, not exists ["a", "b"]) { stop; } else { Include :global :once :optional "g"; return; }
    (
      script (says "require" (many "fileinto" ("copy" ∷ "include" ∷ []) ∷ [])
          ∷ under "if" (one_test (asks "header" (tag "Contains" ∷ one "subject" ∷ one "invoice" ∷ [])))
          (says "fileinto" (tag "copy" ∷ one "finance" ∷ []) ∷ [])
          ∷ under "ELSIF" (one_test (test (codes "anyof") [] (listed_tests (asks "size" (tag "over" ∷ arguments.Number 5 ∷ []))
          (next_test (test (codes "not") [] (one_test (asks "exists" (many "a" ("b" ∷ []) ∷ [])))) last_test))))
          (says "stop" [] ∷ [])
          ∷ under "else" no_tests (says "Include" (tag "global" ∷ tag "once" ∷ tag "optional" ∷ one "g" ∷ []) ∷ says "return" [] ∷ []) ∷ []),
      None,
    ) ∷
    -- require "comparator-i;octet"; if header :comparator "i;octet" :matches ["a"] "b" {}
    (
      script (says "require" (one "comparator-i;octet" ∷ [])
          ∷ under "if" (one_test (asks "header" (tag "comparator" ∷ one "i;octet" ∷ tag "matches" ∷ many "a" [] ∷ one "b" ∷ []))) [] ∷ []),
      None,
    ) ∷
    []

refusals : map (λ r. refusal_of r.0) rows ≡ map (λ r. r.1) rows
unfolding refusal_of refusal_from same_name same_text
refusals = refl
