-- The definitions on worked rows.
use Rattle.std.proofs.Common.{◌≡◌, inl, inr, ℕ, Bool, true, false, List, [], ◌∷◌, Option, Some, None, map, codes, refl, lit<}
use Rattle.sieve_syntax.specs.declared.token.Mark.TheVariants.{Semicolon, OpenBrace, CloseBrace}
use Rattle.sieve_syntax.specs.declared.token.Token.{Token}
use Rattle.sieve_syntax.specs.declared.token.TokenKind.TheVariants.{Identifier, Tag, StringValue, Mark}
use Rattle.tool_findings.specs.Commands.{Include, includes_among}
use Rattle.rule_folders.specs.Paths.{path_of_name, path_under, without_slash}
use Rattle.rule_folders.specs.Reached.{AreEdges}
use Rattle.rule_folders.specs.Reading.{Entry, number_at}

-- if true { include :global "b"; } Include :once "a"; include "c"
abbrev tokens : List Token
tokens = record { kind = Identifier (codes "if"); start = 0; end = 2 } ∷ record { kind = Identifier (codes "true"); start = 3; end = 7 }
    ∷ record { kind = Mark OpenBrace; start = 8; end = 9 } ∷ record { kind = Identifier (codes "include"); start = 10; end = 17 }
    ∷ record { kind = Tag (codes "global"); start = 18; end = 25 } ∷ record { kind = StringValue (codes "b"); start = 26; end = 29 }
    ∷ record { kind = Mark Semicolon; start = 29; end = 30 } ∷ record { kind = Mark CloseBrace; start = 31; end = 32 }
    ∷ record { kind = Identifier (codes "Include"); start = 33; end = 40 } ∷ record { kind = Tag (codes "once"); start = 41; end = 46 }
    ∷ record { kind = StringValue (codes "a"); start = 47; end = 50 } ∷ record { kind = Mark Semicolon; start = 50; end = 51 }
    ∷ record { kind = Identifier (codes "include"); start = 52; end = 59 } ∷ record { kind = StringValue (codes "c"); start = 60; end = 63 } ∷ []

-- the last command is not ended, and is none
includes_are : includes_among tokens
    ≡ record { name = codes "b"; is_global = true; is_once = false; at = 26 }
    ∷ record { name = codes "a"; is_global = false; is_once = true; at = 47 } ∷ []
includes_are = refl

folders_are : map without_slash (codes "rules/ann/" ∷ codes "rules/global" ∷ codes "/" ∷ []) ≡ codes "rules/ann" ∷ codes "rules/global" ∷ [] ∷ []
folders_are = refl

path_is : path_under (codes "rules/ann") (codes "main") ≡ codes "rules/ann/main.sieve"
path_is = refl

-- names that no file can have
no_paths : map (path_of_name (codes "rules")) (codes ".main" ∷ codes "a/b" ∷ [] ∷ []) ≡ None ∷ None ∷ None ∷ []
no_paths = refl

-- a folder in which each name has a path
abbrev home : List ℕ → Bool → Option (List ℕ)
home name is_global = Some name

abbrev script : List ℕ → Entry
script name = record { path = name; name = name; is_global = false; text = None }

abbrev included : List ℕ → Include
included name = record { name = name; is_global = false; is_once = false; at = 7 }

numbers_are : map (λ q. number_at q (script (codes "main") ∷ script (codes "a") ∷ [])) (codes "a" ∷ codes "main" ∷ codes "b" ∷ [])
    ≡ Some 1 ∷ Some 0 ∷ None ∷ []
numbers_are = refl

-- a is found, d is missing, and main was there before: two edges
edges_are : AreEdges home (record { path = codes "a"; is_global = false; answer = Some None } ∷ record { path = codes "d"; is_global = false; answer = None } ∷ [])
    (script (codes "main") ∷ script (codes "a") ∷ []) (included (codes "a") ∷ included (codes "d") ∷ included (codes "main") ∷ [])
    (record { to = 1; at = 7; is_once = false } ∷ record { to = 0; at = 7; is_once = false } ∷ [])
edges_are = inr (((script (codes "a"), refl, refl), refl, refl), inl ((1, lit< tt, refl), inr (((script (codes "main"), refl, refl), refl, refl), tt)))
