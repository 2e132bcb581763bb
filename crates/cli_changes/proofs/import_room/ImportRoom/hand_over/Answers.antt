use Rattle.std.proofs.Common.{refl, subst, inl, inr}
use Rattle.cli_changes.specs.Endings.{IsAnswer}
use Rattle.cli_changes.specs.Imports.{first_of}
use Rattle.cli_changes.specs.declared.space.Place.{Place}
use Rattle.cli_changes.proofs.import_room.ImportRoom.hand_over.Goals as goal

pub returns-in_default-clause-desk : goal.returns-in_default-clause-desk
returns-in_default-clause-desk g c = inr (refl, refl)

pub returns-in-Ok-deliver_at-clause-desk : goal.returns-in-Ok-deliver_at-clause-desk
returns-in-Ok-deliver_at-clause-desk g c = inl (record {
  done = c.in-Ok-deliver_at.done;
  mid = c.deliver_at.new.self.desk;
  delivered = c.in-Ok-deliver_at.ensures.delivered c.args.octets.items refl;
  answers = subst (λ (p : Place). IsAnswer (first_of p.volume) c.in-Ok-deliver_at.done c.answer_to.result) c.deliver_at.ensures.place.place
      c.answer_to.ensures.answer;
  left = c.answer_to.ensures.left;
})

pub returns-clause-desk : goal.returns-clause-desk
returns-clause-desk g c = inr (tt, c.in-Err.ensures.undelivered)
