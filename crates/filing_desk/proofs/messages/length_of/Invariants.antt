use Rattle.std.proofs.Common.{◌≡◌, ◌≤◌, length, take}
use Rattle.desk_commands.specs.Limits.{greatest_message}
use Rattle.filing_desk.specs.Messages.{whole_message}
use Rattle.filing_desk.proofs.messages.length_of.Given as goal

abbrev pub invariant-loop-piece : goal.invariant-loop-piece
invariant-loop-piece l = (l.octets ≡ length (whole_message (take l.piece-index l.pieces))) × (l.octets ≤ greatest_message)
