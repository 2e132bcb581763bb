-- The weight of a script: a bound on the code that it needs, computed from its text alone.
use Rattle.std.specs.Prelude.{ℕ, zero, suc, ◌+◌, ◌*◌, List, ◌∷◌, length, Bool, true, false, Option, Some, None}
use Rattle.sieve_meaning.specs.Program.{Test, always, negated, all_of, any_of, has_all, over, under, header, Tests, no_test, test_then, Include, Command, require, keep, discard, stop, return, file_into, branch, include, Commands, no_command, command_then, Branches, no_branch, otherwise, if_then}
use Rattle.sieve_meaning.specs.Meaning.{Library, ScriptName, script_named, is_among, main_names}

-- 4 for a test at any depth, 2 for each name of a header field, 3 for each key
abbrev mutual
  pub test_weight : Test → ℕ
  test_weight (always b) = 4
  test_weight (negated t) = 4 + test_weight t
  test_weight (all_of ts) = 4 + tests_weight ts
  test_weight (any_of ts) = 4 + tests_weight ts
  test_weight (has_all names) = 4 + 2 * length names
  test_weight (over n) = 4
  test_weight (under n) = 4
  test_weight (header m c n ns k ks) = 4 + 2 * suc (length ns) + 3 * suc (length ks)

  pub tests_weight : Tests → ℕ
  tests_weight no_test = 0
  tests_weight (test_then t ts) = test_weight t + tests_weight ts

-- 4 for a command, in a block too, and for each `elsif` and `else`; an include adds the weight that is given for it
abbrev mutual
  pub weight : (Include → ℕ) → Commands → ℕ
  weight inc no_command = 0
  weight inc (command_then x xs) = weight_one inc x + weight inc xs

  pub weight_one : (Include → ℕ) → Command → ℕ
  weight_one inc require = 4
  weight_one inc keep = 4
  weight_one inc discard = 4
  weight_one inc stop = 4
  weight_one inc return = 4
  weight_one inc (file_into copy path) = 4
  weight_one inc (branch bs) = branches_weight inc bs
  weight_one inc (include n) = 4 + inc n

  pub branches_weight : (Include → ℕ) → Branches → ℕ
  branches_weight inc no_branch = 0
  branches_weight inc (otherwise xs) = 4 + weight inc xs
  branches_weight inc (if_then t xs bs) = 4 + test_weight t + weight inc xs + branches_weight inc bs

abbrev pub unless_missing : Option Commands → (Commands → ℕ) → ℕ
unless_missing None enter = 0
unless_missing (Some script) enter = enter script

abbrev pub unless_active : Bool → ℕ → ℕ
unless_active true n = 0
unless_active false n = n

-- An include adds the weight of its script, computed with that script active. It adds nothing if the script is missing
-- or active. The number is how many further scripts may be active; if none may, it adds nothing either.
abbrev pub included_weight : Library → ℕ → (chain : List ScriptName) → Include → ℕ
included_weight lib zero chain n = 0
included_weight lib (suc left) chain n = unless_missing (lib.find (script_named n))
    (λ script. unless_active (is_among chain (script_named n))
    (weight (included_weight lib left (script_named n ∷ chain)) script))

-- the weight of a main script and all that it includes
abbrev pub linked_weight : Library → (known_as : Option (List ℕ)) → Commands → ℕ
linked_weight lib known_as main = weight (included_weight lib 7 (main_names known_as)) main + 1

-- the greatest weight of code
abbrev pub greatest_weight : ℕ
greatest_weight = 60000
