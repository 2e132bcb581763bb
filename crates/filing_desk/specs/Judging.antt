-- What the parts of filing answer.
use Rattle.std.specs.Prelude.{◌≡◌, ℕ, ◌<◌, ◌≤◌, ◌⊎◌, List, length, is_some}
use Rattle.desk_commands.specs.Faults.{refusal_of, has_place}
use Rattle.desk_commands.specs.Limits.{greatest_message}
use Rattle.desk_commands.specs.declared.fault.DeskFault.{DeskFault}
use Rattle.desk_commands.specs.declared.fault.DeskFault.TheVariants.{NoMemory}

-- a message is refused with this number: it is too long
abbrev pub IsLongMessage : (message : List ℕ) (number : ℕ) → Type 0
IsLongMessage message number = (greatest_message < length message) × (number ≡ 95)

-- a fault by the rules, with an offset exactly where its number is shown with one; or no memory (99), for a payload
-- within its limit
abbrev pub IsFaultOf : (Refuses : ℕ → Type 0) (limit : ℕ) (payload : List ℕ) → DeskFault → Type 0
IsFaultOf Refuses limit payload f =
    ((is_some (refusal_of f).offset ≡ has_place (refusal_of f).number) × Refuses (refusal_of f).number) ⊎
    ((f ≡ NoMemory) × (length payload ≤ limit))
