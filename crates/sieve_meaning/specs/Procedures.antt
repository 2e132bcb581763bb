-- How the scripts that a main script includes can share their code: a procedure is a script as some of its includes run
-- it, and its code stands once for all of them.
use Rattle.std.specs.Prelude.{ℕ, zero, suc, ◌+◌, List, [], ◌∷◌, ◌++◌, length, map, filter, Bool, true, false, not, ◌&&◌, ◌||◌, Option, Some, None, nat_eq, nat_lt}
use Rattle.std.specs.List.{list_any, list_all, flat_map, filter_map}
use Rattle.sieve_meaning.specs.Program.{Include, Command, require, keep, discard, stop, return, file_into, branch, include, Commands, no_command, command_then, Branches, no_branch, otherwise, if_then}
use Rattle.sieve_meaning.specs.Meaning.{Library, ScriptName, script_named, same_script, is_among, main_names}
use Rattle.sieve_meaning.specs.Weight.{weight, greatest_weight, unless_missing, unless_active}

-- INCLUDED SCRIPTS

-- the includes of a script, those in blocks too
abbrev mutual
  pub includes_of : Commands → List Include
  includes_of no_command = []
  includes_of (command_then x xs) = includes_in x ++ includes_of xs

  pub includes_in : Command → List Include
  includes_in require = []
  includes_in keep = []
  includes_in discard = []
  includes_in stop = []
  includes_in return = []
  includes_in (file_into copy path) = []
  includes_in (branch bs) = branch_includes bs
  includes_in (include i) = i ∷ []

  pub branch_includes : Branches → List Include
  branch_includes no_branch = []
  branch_includes (otherwise xs) = includes_of xs
  branch_includes (if_then t xs bs) = includes_of xs ++ branch_includes bs

-- the first of those that are alike
abbrev pub once : {A : Type 0} → (A → A → Bool) → List A → List A
once alike [] = []
once alike (x ∷ xs) = x ∷ filter (λ y. not (alike x y)) (once alike xs)

-- the names of the scripts that a script includes, each once
abbrev pub included_names : Commands → List ScriptName
included_names script = once same_script (map script_named (includes_of script))

abbrev pub holds_if_there : Option Commands → (Commands → Bool) → Bool
holds_if_there None holds = false
holds_if_there (Some script) holds = holds script

-- Whether a script reaches another over so many includes at most: it includes it, or one that reaches it, among scripts
-- that are there.
abbrev pub reaches_within : Library → ℕ → Commands → ScriptName → Bool
reaches_within lib zero script s = false
reaches_within lib (suc n) script s = list_any
    (λ t. holds_if_there (lib.find t) (λ x. same_script t s || reaches_within lib n x s)) (included_names script)

-- Whether a script reaches another. There are sixty-four scripts at most, so that more includes lead no further.
unfoldable pub reaches : Library → Commands → ScriptName → Bool
reaches lib script s = reaches_within lib 64 script s

-- PROCEDURES

-- A script as some includes run it. The active scripts are those of one such include.
pub record Procedure : Type 0 where
  pub script : Commands
  -- how many further scripts may be active
  pub left : ℕ
  -- the active scripts that have names, the innermost first: the script itself
  pub chain : List ScriptName

-- whether both begin with the same name, or neither has one
abbrev pub same_first : (a b : List ScriptName) → Bool
same_first [] [] = true
same_first [] (t ∷ ts) = false
same_first (s ∷ ss) [] = false
same_first (s ∷ ss) (t ∷ ts) = same_script s t

-- whether those of these scripts that the script reaches are among the others
abbrev pub are_among : Library → Commands → (these others : List ScriptName) → Bool
are_among lib script these others = list_all (λ s. not (reaches lib script s) || is_among others s) these

-- Includes share a procedure where they enter the same script, as many scripts are active, and the script reaches the
-- same of these.
abbrev pub is_shared : Library → Procedure → Procedure → Bool
is_shared lib p q = same_first p.chain q.chain && nat_eq p.left q.left && are_among lib p.script p.chain q.chain &&
    are_among lib p.script q.chain p.chain

abbrev pub entered_if : Option Commands → (active : Bool) → (left : ℕ) → (chain : List ScriptName) → Option Procedure
entered_if None active left chain = None
entered_if (Some script) true left chain = None
entered_if (Some script) false left chain = Some (record { script = script; left = left; chain = chain })

-- The script that an include enters after the active ones: it is there, and not active. `left` further ones may be
-- active.
abbrev pub entry : Library → (left : ℕ) → (chain : List ScriptName) → ScriptName → Option Procedure
entry lib left chain s = entered_if (lib.find s) (is_among chain s) left (s ∷ chain)

-- the procedures that these call, each once, where so many further scripts may be active
abbrev pub called_by : Library → (left : ℕ) → List Procedure → List Procedure
called_by lib left ps = once (is_shared lib)
    (flat_map (λ p. filter_map (entry lib left p.chain) (included_names p.script)) ps)

-- these procedures and all that they lead to, ordered by the number of active scripts
abbrev pub led_to : Library → (left : ℕ) → List Procedure → List Procedure
led_to lib zero ps = ps
led_to lib (suc left) ps = ps ++ led_to lib left (called_by lib left ps)

-- the main script, which is the first procedure; eight scripts may be active, it among them
abbrev pub main_procedure : (known_as : Option (List ℕ)) → Commands → Procedure
main_procedure known_as main = record { script = main; left = 7; chain = main_names known_as }

-- The procedures of a main script, which stand in their order.
unfoldable pub procedures : Library → (known_as : Option (List ℕ)) → Commands → List Procedure
procedures lib known_as main = led_to lib 7 (main_procedure known_as main ∷ [])

-- WEIGHTS

-- of a script without what it includes, and 1 for its end
abbrev pub own_weight : Commands → ℕ
own_weight script = weight (λ i. 0) script + 1

-- of the code of all procedures, each of which stands once
abbrev pub shared_weight : List Procedure → ℕ
shared_weight [] = 0
shared_weight (p ∷ ps) = own_weight p.script + shared_weight ps

-- What an include adds to a path: the weight of its script, computed with that script active, and 1 for its end. It adds
-- nothing if the script is missing or active. The number is how many further scripts may be active; if none may, it adds
-- nothing either.
abbrev pub included_path : Library → ℕ → (chain : List ScriptName) → Include → ℕ
included_path lib zero chain n = 0
included_path lib (suc left) chain n = unless_missing (lib.find (script_named n))
    (λ script. unless_active (is_among chain (script_named n))
    (weight (included_path lib left (script_named n ∷ chain)) script + 1))

-- the weight of a longest path, on which a script counts as often as it is called
unfoldable pub path_weight : Library → (known_as : Option (List ℕ)) → Commands → ℕ
path_weight lib known_as main = weight (included_path lib 7 (main_names known_as)) main + 1

-- LIMITS

abbrev pub most_procedures : ℕ
most_procedures = 256

abbrev pub greatest_path : ℕ
greatest_path = 1000000

-- whether procedures are too many, or too heavy
abbrev pub is_beyond : (ps : List Procedure) → (path : ℕ) → Bool
is_beyond ps path = nat_lt most_procedures (length ps) || nat_lt greatest_weight (shared_weight ps) ||
    nat_lt greatest_path path
