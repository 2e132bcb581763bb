-- How the checker goes over a script: a context is what it knows from the commands before a command.
use Rattle.std.specs.Prelude.{ℕ, Bool, true, false, List, [], ◌∷◌, Option, Some, None, Result, Ok, Err, if◌then◌else◌}
use Rattle.sieve_syntax.specs.declared.tree.Argument.{Argument}
use Rattle.sieve_check.specs.Context.{no_capabilities, has_of, set_after}
use Rattle.sieve_check.specs.Faults.{number_of}
use Rattle.sieve_check.specs.Rules.{PlacedCommand, role_of, is_require, strings_in, Rule, place_breaches, least}
use Rattle.sieve_check.specs.declared.fault.CheckFault.{CheckFault}
use Rattle.sieve_check.specs.declared.context.Context.{Context}

-- the number of the first rule that is broken
abbrev pub first_breach : List Rule → Option ℕ
first_breach [] = None
first_breach (r ∷ rs) = if r.0 then Some r.1 else first_breach rs

abbrev pub start : Context
start = record { named = no_capabilities; begun = false }

-- after a `require`, and after another command
abbrev pub after_command : Bool → Context → List Argument → Context
after_command true c args = record { named = set_after c.named (strings_in args); begun = c.begun }
after_command false c args = record { named = c.named; begun = true }

abbrev pub context_after : Context → PlacedCommand → Context
context_after c p = after_command (is_require (role_of p.word)) c p.args

-- the least number of the rules that a command breaks
abbrev pub breach_of : Context → PlacedCommand → Option ℕ
breach_of c p = least (place_breaches (has_of c.named) c.begun p.word p)

abbrev pub unless : Option ℕ → Result Context ℕ → Result Context ℕ
unless None r = r
unless (Some n) r = Err n

-- the refusal of the first command that breaks a rule, or what is known after all of them
unfoldable pub walk : Context → List PlacedCommand → Result Context ℕ
walk c [] = Ok c
walk c (p ∷ ps) = unless (breach_of c p) (walk (context_after c p) ps)

abbrev pub context_view : Result Context CheckFault → Result Context ℕ
context_view (Ok c) = Ok c
context_view (Err f) = Err (number_of f)

abbrev pub passed_view : Result (Context × Bool) CheckFault → Result Context ℕ
passed_view (Ok x) = Ok x.0
passed_view (Err f) = Err (number_of f)

abbrev pub refusal_view : {A : Type 0} → Result A CheckFault → Option ℕ
refusal_view (Ok a) = None
refusal_view (Err f) = Some (number_of f)
