use Rattle.std.proofs.Common.{refl, inl, inr}
use Rattle.cli_changes.proofs.intake_room.Room.hand_over.Goals as goal

pub returns-in-Ok-clause-handed_over : goal.returns-in-Ok-clause-handed_over
returns-in-Ok-clause-handed_over g c = inl (
  c.in-Ok.done,
  c.deliver_now.new.self,
  c.in-Ok.ensures.delivered c.args.octets.items refl,
  c.answer_to.ensures.answer,
  c.answer_to.ensures.left,
)

pub returns-clause-handed_over : goal.returns-clause-handed_over
returns-clause-handed_over g c = inr (c.in-Err.failure, refl, c.in-Err.ensures.undelivered)
