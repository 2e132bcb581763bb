-- Payloads of a session's input.
use Rattle.std.specs.Prelude.{◌≡◌, ℕ, ◌+◌, ◌<◌, ◌≤◌, List, [], ◌++◌, length, take, drop, Option, Some, None}
use Rattle.desk_commands.specs.declared.payload.Payload.{Payload}
use Rattle.desk_commands.specs.declared.payload.Payload.TheVariants as payload
use Rattle.desk_commands.specs.Payloads.{IsOf}

-- a payload that is kept is within its limit
abbrev pub IsWithin : (limit : ℕ) → Payload → Type 0
IsWithin limit (payload.Whole v) = length v.items ≤ limit
IsWithin limit payload.TooLong = Unit {0}
IsWithin limit payload.NoMemory = Unit {0}

-- the payload is of octets of this size, within its limit where it is kept
abbrev pub IsSized : (size limit : ℕ) → Payload → (octets : List ℕ) → Type 0
IsSized size limit p octets = (length octets ≡ size) × IsOf limit p octets × IsWithin limit p

-- the first octets of an input are taken
abbrev pub Takes : (size : ℕ) → (octets old new : List ℕ) → Type 0
Takes size octets old new = (size ≤ length old) × (octets ≡ take size old) × (new ≡ drop size old)

-- A payload is of octets, or the input ends before. Where the source knows its octets, they are the first of its input.
abbrev pub IsRead : (tells : Type 0) → (size limit : ℕ) → Option Payload → (old new : List ℕ) → Type 0
IsRead tells size limit (Some p) old new =
    (octets : List ℕ) × IsSized size limit p octets × (tells → Takes size octets old new)
IsRead tells size limit None old new = tells → (length old < size) × (new ≡ [])

-- and so are two payloads, one directly after the other
abbrev pub AreRead : (tells : Type 0) → (sizes limits : ℕ × ℕ) → Option (Payload × Payload) → (old new : List ℕ) → Type 0
AreRead tells sizes limits (Some p) old new =
    (first : List ℕ) × (second : List ℕ) × IsSized sizes.0 limits.0 p.0 first × IsSized sizes.1 limits.1 p.1 second
    × (tells → (first ≡ take sizes.0 old) × Takes (sizes.0 + sizes.1) (first ++ second) old new)
AreRead tells sizes limits None old new = tells → (length old < sizes.0 + sizes.1) × (new ≡ [])
