-- Procedures of small libraries, whose numbers and weights are known: each line computes.
use Rattle.std.proofs.Common.{◌≡◌, ℕ, zero, suc, List, [], ◌∷◌, map, false, Option, Some, None, codes, refl}
use Rattle.std.specs.Prelude.{if◌then◌else◌}
use Rattle.std.specs.Str.{bytes_eq}
use Rattle.sieve_meaning.specs.Program.{Include, Command, Commands, no_command, command_then, require, include}
use Rattle.sieve_meaning.specs.Meaning.{Library}
use Rattle.sieve_meaning.specs.Weight.{linked_weight}
use Rattle.sieve_meaning.specs.Procedures.{Procedure, reaches, procedures, shared_weight, path_weight}

abbrev script_like : List ℕ → Include
script_like name = record { global = false; once = false; optional = false; name = name }

abbrev repeated : ℕ → Command → Commands
repeated zero x = no_command
repeated (suc n) x = command_then x (repeated n x)

-- `require "include";`, and so many includes of one script
abbrev includes : ℕ → List ℕ → Commands
includes n name = command_then require (repeated n (include (script_like name)))

abbrev named : List ℕ → List (List ℕ × Commands) → Option Commands
named name [] = None
named name (s ∷ ss) = if bytes_eq s.0 name then Some s.1 else named name ss

-- scripts of these names
abbrev library : List (List ℕ × Commands) → Library
library scripts = record { find = λ s. named s.name scripts }

-- how many further scripts may be active, and which ones are
abbrev shown : Procedure → ℕ × List (List ℕ)
shown p = (p.left, map (λ s. s.name) p.chain)

-- each of a, b, c and d includes the next ten times, and e is empty
abbrev tens : Library
tens = library ((codes "a", includes 10 (codes "b")) ∷ (codes "b", includes 10 (codes "c"))
    ∷ (codes "c", includes 10 (codes "d")) ∷ (codes "d", includes 10 (codes "e")) ∷ (codes "e", no_command) ∷ [])

tens_procedures : map shown (procedures tens None (includes 10 (codes "a"))) ≡ (7, []) ∷ (6, codes "a" ∷ [])
    ∷ (5, codes "b" ∷ codes "a" ∷ []) ∷ (4, codes "c" ∷ codes "b" ∷ codes "a" ∷ [])
    ∷ (3, codes "d" ∷ codes "c" ∷ codes "b" ∷ codes "a" ∷ [])
    ∷ (2, codes "e" ∷ codes "d" ∷ codes "c" ∷ codes "b" ∷ codes "a" ∷ []) ∷ []
unfolding procedures reaches
tens_procedures = refl

tens_shared : shared_weight (procedures tens None (includes 10 (codes "a"))) ≡ 226
unfolding procedures reaches
tens_shared = refl

-- over c alone: c, ten times d and a hundred times e
tens_path : path_weight tens None (includes 10 (codes "c")) ≡ 5995
unfolding path_weight
tens_path = refl

tens_linked : linked_weight tens None (includes 10 (codes "c")) ≡ 4885
tens_linked = refl

-- a and b both include x: where x is empty, they share it
abbrev shared : Library
shared = library ((codes "a", includes 1 (codes "x")) ∷ (codes "b", includes 1 (codes "x")) ∷ (codes "x", no_command) ∷ [])

abbrev both : Commands
both = command_then (include (script_like (codes "a"))) (command_then (include (script_like (codes "b"))) no_command)

shared_once : map shown (procedures shared None both) ≡ (7, []) ∷ (6, codes "a" ∷ []) ∷ (6, codes "b" ∷ []) ∷ (5, codes "x" ∷ codes "a" ∷ []) ∷ []
unfolding procedures reaches
shared_once = refl

-- where x includes a, they do not: after a it finds a active, and after b it does not
abbrev apart : Library
apart = library ((codes "a", includes 1 (codes "x")) ∷ (codes "b", includes 1 (codes "x")) ∷ (codes "x", includes 1 (codes "a")) ∷ [])

not_shared : map shown (procedures apart None both) ≡ (7, []) ∷ (6, codes "a" ∷ []) ∷ (6, codes "b" ∷ [])
    ∷ (5, codes "x" ∷ codes "a" ∷ []) ∷ (5, codes "x" ∷ codes "b" ∷ []) ∷ (4, codes "a" ∷ codes "x" ∷ codes "b" ∷ [])
    ∷ []
unfolding procedures reaches
not_shared = refl
