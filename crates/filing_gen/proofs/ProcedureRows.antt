-- The code of small scripts that include others, where each is a procedure: each line computes.
use Rattle.std.proofs.Common.{◌≡◌, ℕ, zero, suc, List, [], ◌∷◌, false, Option, Some, None, codes, refl}
use Rattle.std.specs.Prelude.{if◌then◌else◌}
use Rattle.std.specs.Str.{bytes_eq}
use Rattle.sieve_meaning.specs.Program.{Command, Commands, no_command, command_then, require, discard, include}
use Rattle.sieve_meaning.specs.Meaning.{Library}
use Rattle.sieve_meaning.specs.Procedures.{reaches, procedures}
use Rattle.filing_flow.specs.Structure.{SetMark, SetCancelled, CallTo, nothing, action, sequence}
use Rattle.filing_procedures.specs.Slots.{Slots}
use Rattle.filing_flow.specs.Procedures.{places_from, whole_size}
use Rattle.filing_gen.specs.Procedures.{shared_flows}

abbrev named : List ℕ → List (List ℕ × Commands) → Option Commands
named name [] = None
named name (s ∷ ss) = if bytes_eq s.0 name then Some s.1 else named name ss

-- scripts of these names
abbrev library : List (List ℕ × Commands) → Library
library scripts = record { find = λ s. named s.name scripts }

abbrev included : List ℕ → Command
included name = include (record { global = false; once = false; optional = false; name = name })

abbrev first_slot : Slots
first_slot s = 0

-- a script that includes another, which discards
abbrev discarding : Library
discarding = library ((codes "x", command_then discard no_command) ∷ [])

abbrev outer : Commands
outer = command_then (included (codes "x")) no_command

discard_is_called : shared_flows discarding first_slot None outer
    ≡ sequence (sequence (action (SetMark 0)) (action (CallTo 1))) nothing ∷ sequence (action SetCancelled) nothing ∷ []
unfolding procedures reaches
discard_is_called = refl

-- a mark, a call and the end stand before the second one
discard_begins : places_from 0 (shared_flows discarding first_slot None outer) ≡ 0 ∷ 3 ∷ []
unfolding procedures reaches
discard_begins = refl

-- each of a, b, c and d includes the next ten times, and e is empty
abbrev repeated : ℕ → Command → Commands
repeated zero x = no_command
repeated (suc n) x = command_then x (repeated n x)

abbrev ten : List ℕ → Commands
ten name = command_then require (repeated 10 (included name))

abbrev tens : Library
tens = library ((codes "a", ten (codes "b")) ∷ (codes "b", ten (codes "c")) ∷ (codes "c", ten (codes "d"))
    ∷ (codes "d", ten (codes "e")) ∷ (codes "e", no_command) ∷ [])

tens_begin : places_from 0 (shared_flows tens first_slot None (ten (codes "a"))) ≡ 0 ∷ 21 ∷ 42 ∷ 63 ∷ 84 ∷ 105 ∷ []
unfolding procedures reaches
tens_begin = refl

pub tens_size : whole_size (shared_flows tens first_slot None (ten (codes "a"))) ≡ 106
unfolding procedures reaches
tens_size = refl
