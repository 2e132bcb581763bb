-- The definitions on small scripts and patterns with known answers: each line computes.
use Rattle.std.proofs.Common.{◌≡◌, ℕ, Bool, true, false, List, [], ◌∷◌, map, Some, None, codes, refl}
use Rattle.std.specs.Str.{bytes_eq}
use Rattle.sieve_syntax.specs.Tree.{test, no_tests, one_test, CommandTree, command, semicolon, block, CommandTrees}
use Rattle.sieve_syntax.specs.Tree.{no_commands, command_then as tree_then}
use Rattle.sieve_syntax.specs.declared.tree.StringList.TheVariants as string_lists
use Rattle.sieve_syntax.specs.declared.tree.Argument.TheVariants as arguments
use Rattle.class_paths.specs.Path.{unfiled}
use Rattle.sieve_meaning.specs.declared.matching.Comparator.{Comparator}
use Rattle.sieve_meaning.specs.declared.matching.Comparator.TheVariants as comparators
use Rattle.sieve_meaning.specs.declared.outcome.Outcome.{Outcome}
use Rattle.sieve_meaning.specs.declared.run_fault.RunFault.TheVariants.{ClassNotOpen}
use Rattle.sieve_meaning.specs.Words.{command_word, test_word}
use Rattle.sieve_meaning.specs.Matching.{items_from, items_of, suffixes, contains, covers}
use Rattle.sieve_meaning.specs.Case.{Facts}
use Rattle.sieve_meaning.specs.Reading.{string_lists, comparator_from, program_of}
use Rattle.sieve_meaning.specs.Meaning.{no_library}
use Rattle.sieve_meaning.specs.Weight.{linked_weight}
use Rattle.sieve_meaning.specs.TooHeavy.{is_too_heavy}
use Rattle.sieve_meaning.specs.Outcome.{outcome}

-- each comparator, pattern and text, and whether the pattern covers the text
abbrev covered : List (Comparator × List ℕ × List ℕ × Bool)
covered =
    (comparators.Octet, codes "*ab*ab", codes "abab", true) ∷
    (comparators.Octet, codes "*ab*ab", codes "ab", false) ∷
    (comparators.Casemap, codes "a\\*b?c", codes "A*BXC", true) ∷
    (comparators.Casemap, codes "a\\*b?c", codes "axbxc", false) ∷
    []

covered_are : map (λ r. covers r.0 (items_of r.1) r.2) covered ≡ map (λ r. r.3) covered
unfolding items_from suffixes covers
covered_are = refl

invoice : contains comparators.Casemap (codes "invoice") (codes "Your INVOICE") ≡ true
unfolding contains suffixes
invoice = refl

-- `if header :contains NAME KEY { COMMAND }` after `require "fileinto";`
abbrev contains_script : List ℕ → List ℕ → CommandTree → CommandTrees
contains_script name key c =
    tree_then (command (codes "require") (arguments.Strings (string_lists.One (codes "fileinto")) ∷ []) no_tests semicolon)
    (tree_then (command (codes "if") []
    (one_test (test (codes "header") (arguments.Tag (codes "contains") ∷ arguments.Strings (string_lists.One name)
    ∷ arguments.Strings (string_lists.One key) ∷ []) no_tests)) (block (tree_then c no_commands)))
    no_commands)

abbrev discard_tree : CommandTree
discard_tree = command (codes "discard") [] no_tests semicolon

abbrev file_tree : List ℕ → CommandTree
file_tree path = command (codes "fileinto") (arguments.Strings (string_lists.One path) ∷ []) no_tests semicolon

abbrev message : List ℕ → List ℕ → Facts
message name value = record { size = 25; fields = record { name = name; value = value } ∷ []; is_open = bytes_eq (codes "finance") }

abbrev result : Facts → CommandTrees → Outcome
result facts tree = outcome facts no_library None (program_of tree)

-- a message whose subject contains the key is filed in the class
files : result (message (codes "Subject") (codes "Your INVOICE"))
    (contains_script (codes "subject") (codes "invoice") (file_tree (codes "finance")))
    ≡ record { classes = (codes "finance") ∷ []; fault = None }
unfolding command_word test_word string_lists comparator_from suffixes contains outcome is_too_heavy
files = refl

-- its weight
weighs : linked_weight no_library None (program_of (contains_script (codes "subject") (codes "invoice") (file_tree (codes "finance")))) ≡ 22
unfolding command_word test_word string_lists comparator_from
weighs = refl

-- an absent header field contains no key, not even the empty one; a present one does
absent : result (message (codes "Subject") (codes "a")) (contains_script (codes "x-none") [] discard_tree)
    ≡ record { classes = unfiled ∷ []; fault = None }
unfolding command_word test_word string_lists comparator_from suffixes contains outcome is_too_heavy
absent = refl

present : result (message (codes "X-None") []) (contains_script (codes "x-none") [] discard_tree) ≡ record { classes = []; fault = None }
unfolding command_word test_word string_lists comparator_from suffixes contains outcome is_too_heavy
present = refl

-- a path that is not open is a fault, and what was filed before is dropped
closed : result (message [] [])
    (tree_then (file_tree (codes "finance")) (tree_then (file_tree (codes "nowhere")) no_commands))
    ≡ record { classes = unfiled ∷ []; fault = Some ClassNotOpen }
unfolding command_word string_lists outcome is_too_heavy
closed = refl
