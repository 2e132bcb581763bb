-- The octets of messages that are to be captured.
use Rattle.std.specs.Prelude.{◌≡◌, ℕ, ◌≤◌, List, length, flat_map}
use denote.Ref.{Bor}
use Rattle.desk_commands.specs.Limits.{greatest_message}
use Rattle.desk_commands.specs.Payloads.{IsOf}
use Rattle.desk_commands.specs.declared.payload.Payload.{Payload}
use Rattle.desk_commands.specs.declared.payload.Payload.TheVariants as payload
use Rattle.filing_desk.specs.declared.messages.Message.{Message}
use Rattle.filing_desk.specs.declared.messages.Message.TheVariants as message

-- the octets of pieces, one after the other
abbrev pub whole_message : (pieces : List (Bor (List ℕ))) → List ℕ
whole_message pieces = flat_map (λ p. p.now) pieces

-- a message is of these octets
abbrev pub IsMessageOf : Message → (octets : List ℕ) → Type 0
IsMessageOf (message.Whole p) octets = IsOf greatest_message p octets
IsMessageOf (message.Pieces pieces) octets = whole_message pieces.now ≡ octets

-- a payload is not too long: its octets are within the limit, or there was no memory for them
abbrev pub IsShortPayload : Payload → Type 0
IsShortPayload (payload.Whole v) = length v.items ≤ greatest_message
IsShortPayload payload.TooLong = ⊥
IsShortPayload payload.NoMemory = Unit {0}

-- a message is not too long
abbrev pub IsShortMessage : Message → Type 0
IsShortMessage (message.Whole p) = IsShortPayload p
IsShortMessage (message.Pieces pieces) = length (whole_message pieces.now) ≤ greatest_message
