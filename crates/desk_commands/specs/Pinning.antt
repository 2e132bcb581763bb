-- What an officer has set, the state at the beginning of a capture, what is pinned for the capture, and its outcome.
use Rattle.std.specs.Prelude.{◌≡◌, ℕ, List, [], ◌∷◌, Bool, true, false, if◌then◌else◌, Option, Some, None}
use Rattle.sieve_meaning.specs.declared.outcome.Outcome.{Outcome}
use Rattle.sieve_meaning.specs.declared.run_fault.RunFault.TheVariants as run_faults
use Rattle.sieve_meaning.specs.RunFaults.{number_of}
use Rattle.sieve_meaning.specs.Case.{Facts}
use Rattle.sieve_meaning.specs.Program.{Commands}
use Rattle.sieve_meaning.specs.Meaning.{Library}
use Rattle.sieve_meaning.specs.Outcome as meaning
use Rattle.sieve_meaning.specs.TooHeavy.{is_too_heavy, script_budget}
use Rattle.filing_image.specs.Program.{Program}
use Rattle.filing_image.specs.declared.instruction.Operation.TheVariants.{Stop, Fault}
use Rattle.filing_table.specs.Ends.{HasOutcome}
use Rattle.mail_case.specs.Message.{case_of}
use Rattle.filing_flow.specs.Compiled.{IsCompiled}
use Rattle.desk_commands.specs.Scripts.{script_at}

-- The program that an officer has set.
pub data Active : Type 0 where
  no_program : Active
  -- One of the officer's scripts, by its name.
  script_named : (name : List ℕ) → Active
  image : Program → Active

pub record Officer : Type 0 where
  pub active : Active
  -- The officer's scripts, with their names.
  pub scripts : List (List ℕ × Commands)

-- An officer who has set nothing.
abbrev pub new_officer : Officer
new_officer = record { active = no_program; scripts = [] }

-- An officer's program at a moment.
pub data Choice : Type 0 where
  nothing : Choice
  script : (name : List ℕ) → Commands → Choice
  image_of : Program → Choice

abbrev pub script_if : (name : List ℕ) → Option Commands → Choice
script_if name None = nothing
script_if name (Some s) = script name s

-- A name means the script that has it now.
abbrev pub choice_by : Active → List (List ℕ × Commands) → Choice
choice_by no_program scripts = nothing
choice_by (script_named name) scripts = script_if name (script_at name scripts)
choice_by (image p) scripts = image_of p

-- The state at the beginning of a capture: the officer's program, what an include finds, the message, the open classes,
-- and the day in days since 1970-01-01.
pub record BeginState : Type 0 where
  pub program : Choice
  pub library : Library
  pub message : List ℕ
  pub is_open : List ℕ → Bool
  pub day : ℕ

-- The case of the message and of the open classes.
abbrev pub case_in : BeginState → Facts
case_in s = case_of s.message s.is_open

-- Nothing is filed, and the message is kept.
abbrev pub kept_alone : Outcome
kept_alone = meaning.outcome_at None [] false false

-- The outcome of a program in a case.
abbrev pub GivesOutcome : Choice → Library → Facts → Outcome → Type 0
GivesOutcome nothing lib facts o = o ≡ kept_alone
GivesOutcome (script name s) lib facts o = o ≡ meaning.outcome facts lib (Some name) s
GivesOutcome (image_of p) lib facts o = (n : ℕ) × HasOutcome p facts n o

-- The outcome of a capture by the state at its beginning alone.
abbrev pub IsAlone : BeginState → Outcome → Type 0
IsAlone s o = GivesOutcome s.program s.library (case_in s) o

-- A program of one instruction.
abbrev pub one_stop : Program
one_stop = record { budget = 1; texts = []; numbers = []; slots = 0; procedures = None; code = Stop ∷ [] }

abbrev pub one_fault : Program
one_fault = record { budget = 1; texts = []; numbers = []; slots = 0; procedures = None; code = Fault (number_of run_faults.TooHeavy) ∷ [] }

-- The budget of what is pinned, in steps.
abbrev pub budget_by : Choice → Library → ℕ
budget_by nothing lib = 1
budget_by (script name s) lib = if is_too_heavy lib (Some name) s then 1 else script_budget lib (Some name) s
budget_by (image_of p) lib = p.budget

abbrev pub budget_of : BeginState → ℕ
budget_of s = budget_by s.program s.library

abbrev pub PinsScript : (too_heavy : Bool) → Library → (name : List ℕ) → Commands → Program → Type 0
PinsScript true lib name s p = p ≡ one_fault
PinsScript false lib name s p = IsCompiled lib (Some name) s p

-- What is pinned: an image as it is, one FAULT 5 for a script that is too heavy, and one STOP where nothing is set. For
-- any other script it is a program that is compiled correctly for every case, not only for this one.
abbrev pub PinsChoice : Choice → Library → Program → Type 0
PinsChoice nothing lib p = p ≡ one_stop
PinsChoice (script name s) lib p = PinsScript (is_too_heavy lib (Some name) s) lib name s p
PinsChoice (image_of q) lib p = p ≡ q

abbrev pub Pins : BeginState → Program → Type 0
Pins s p = PinsChoice s.program s.library p
