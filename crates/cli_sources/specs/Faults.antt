-- Why an officer has no rules.
use Rattle.std.specs.Prelude.{◌≡◌, ℕ, Bool, true, false, List, string_bytes}
use Rattle.desk_commands.specs.Faults.{refusal_of}
use Rattle.desk_commands.specs.declared.fault.DeskFault.{DeskFault}
use Rattle.cli_sources.specs.declared.fault.RulesFault.{RulesFault}
use Rattle.cli_sources.specs.declared.fault.RulesFault.TheVariants.{BadOfficer, Missing, Unreadable, Refused, NoMemory}

-- what is at this path is refused by this number, or there was no memory
abbrev pub IsRefusedBy : (path : List ℕ) → (number : ℕ) → RulesFault → Type 0
IsRefusedBy path number (BadOfficer officer) = ⊥
IsRefusedBy path number (Missing at) = ⊥
IsRefusedBy path number (Unreadable at error) = ⊥
IsRefusedBy path number (Refused at place n) = (string_bytes at ≡ path) × (n ≡ number)
IsRefusedBy path number NoMemory = Unit {0}

-- the same by the number of a registry's refusal
abbrev pub IsFaultOf : (path : List ℕ) → DeskFault → RulesFault → Type 0
IsFaultOf path refusal fault = IsRefusedBy path (refusal_of refusal).number fault

-- the officer's own rules are at fault: missing, or with a script that is refused
abbrev pub is_of_rules : RulesFault → Bool
is_of_rules (BadOfficer officer) = false
is_of_rules (Missing path) = true
is_of_rules (Unreadable path error) = false
is_of_rules (Refused path place n) = true
is_of_rules NoMemory = false
