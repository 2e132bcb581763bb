-- Payloads, and the octets that they give.
use Rattle.std.specs.Prelude.{◌≡◌, ℕ, ◌<◌, ◌≤◌, ◌⊎◌, List, length, Result, Ok, Err}
use denote.Ref.{Bor}
use Rattle.desk_commands.specs.declared.fault.DeskFault.{DeskFault}
use Rattle.desk_commands.specs.declared.fault.DeskFault.TheVariants as faults
use Rattle.desk_commands.specs.declared.payload.Payload.{Payload}
use Rattle.desk_commands.specs.declared.payload.Payload.TheVariants as payload

-- the payload is of these octets: whole, or over the limit, or within it but without memory
abbrev pub IsOf : (limit : ℕ) → Payload → (octets : List ℕ) → Type 0
IsOf limit (payload.Whole v) octets = v.items ≡ octets
IsOf limit payload.TooLong octets = limit < length octets
IsOf limit payload.NoMemory octets = length octets ≤ limit

-- the octets within their limit, or the fault that they are too many, or no memory for octets within their limit
abbrev pub IsOffered : (limit : ℕ) → (too_long : DeskFault) → (octets : List ℕ) → Result (Bor (List ℕ)) DeskFault →
    Type 0
IsOffered limit too_long octets (Ok there) = (there.now ≡ octets) × (length octets ≤ limit)
IsOffered limit too_long octets (Err fault) = ((limit < length octets) × (fault ≡ too_long)) ⊎
    ((length octets ≤ limit) × (fault ≡ faults.NoMemory))
