-- The calls of a registry by which the scripts of a folder become the rules of an officer.
use Rattle.std.specs.Prelude.{◌≡◌, ℕ, List, [], ◌∷◌, ◌⊎◌, Ok, Err, codes, string_bytes}
use Rattle.desk_commands.specs.Answers.{Answer}
use Rattle.desk_commands.specs.CallAnswers.{answer_of_done}
use Rattle.desk_commands.specs.Limits.{greatest_script}
use Rattle.desk_commands.specs.Office.{set_global, set_script, activate}
use Rattle.desk_commands.specs.Payloads.{IsOf}
use Rattle.desk_commands.specs.Standing.{Command, plain}
use Rattle.desk_commands.specs.declared.fault.DeskFault.{DeskFault}
use Rattle.cli_sources.specs.Faults.{IsFaultOf}
use Rattle.cli_sources.specs.declared.fault.RulesFault.{RulesFault}
use Rattle.cli_sources.specs.declared.reading.Rules.{Rules}
use Rattle.cli_sources.specs.declared.reading.Script.{Script}

-- the command that sets a text under a name
abbrev pub Setting : Type 0
Setting = (name text : List ℕ) → Command

-- as a global script
abbrev pub globally : Setting
globally name text = plain (set_global name text)

-- as a script of an officer
abbrev pub by_officer : (officer : List ℕ) → Setting
by_officer officer name text = plain (set_script officer name text)

-- the officer's script `main` becomes its program
abbrev pub activates_main : (officer : List ℕ) → Command
activates_main officer = plain (activate officer (codes "main"))

abbrev pub accepted : Answer
accepted = answer_of_done (Ok tt)

abbrev pub refused : DeskFault → Answer
refused fault = answer_of_done (Err fault)

-- what a registry does on a command, with its answer
module _ {D : Type 0} (Calls : D → Command → Answer → D → Type 0) where
  -- a script is set under its name, with the answer; its text are the octets of its payload
  abbrev pub Sets : Setting → Script → (old : D) → Answer → (new : D) → Type 0
  Sets setting script old answer new = (text : List ℕ) → IsOf greatest_script script.text text
      → Calls old (setting (string_bytes script.name) text) answer new

  -- these scripts are set in their order, and all are accepted
  abbrev pub SetsAll : Setting → List Script → (old new : D) → Type 0
  SetsAll setting [] old new = new ≡ old
  SetsAll setting (script ∷ scripts) old new = (mid : D) × Sets setting script old accepted mid × SetsAll setting scripts mid new

  -- these scripts are set in their order up to one that is refused, which is the fault
  abbrev pub StopsAmong : Setting → List Script → RulesFault → (old new : D) → Type 0
  StopsAmong setting [] fault old new = ⊥
  StopsAmong setting (script ∷ scripts) fault old new =
      ((refusal : DeskFault) × IsFaultOf (string_bytes script.path) refusal fault × Sets setting script old (refused refusal) new)
      ⊎ ((mid : D) × Sets setting script old accepted mid × StopsAmong setting scripts fault mid new)

  -- the global scripts are set, then the officer's own, and then `main` becomes the officer's program
  abbrev pub SetsRules : Rules → (old new : D) → Type 0
  SetsRules rules old new = (shared : D) × (own : D) × SetsAll globally rules.globals.items old shared
      × SetsAll (by_officer (string_bytes rules.officer)) rules.scripts.items shared own
      × Calls own (activates_main (string_bytes rules.officer)) accepted new

  -- at the end `main` is refused as the program, which is the fault
  abbrev pub StopsAtMain : Rules → RulesFault → (own new : D) → Type 0
  StopsAtMain rules fault own new = (refusal : DeskFault) × IsFaultOf (string_bytes rules.officer) refusal fault
      × Calls own (activates_main (string_bytes rules.officer)) (refused refusal) new

  -- the first of these calls that is refused is the last one, and is the fault
  abbrev pub StopsSetting : Rules → RulesFault → (old new : D) → Type 0
  StopsSetting rules fault old new = StopsAmong globally rules.globals.items fault old new
      ⊎ ((shared : D) × SetsAll globally rules.globals.items old shared
      × (StopsAmong (by_officer (string_bytes rules.officer)) rules.scripts.items fault shared new
      ⊎ ((own : D) × SetsAll (by_officer (string_bytes rules.officer)) rules.scripts.items shared own
      × StopsAtMain rules fault own new)))
