use Rattle.std.proofs.Common.{◌≡◌, take}
use Rattle.filing_desk.specs.Messages.{whole_message}
use Rattle.filing_desk.proofs.messages.join.Given as goal

abbrev pub invariant-loop-piece : goal.invariant-loop-piece
invariant-loop-piece l = l.message.items ≡ whole_message (take l.piece-index l.pieces)
