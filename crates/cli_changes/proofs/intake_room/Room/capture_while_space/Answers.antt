use Rattle.std.proofs.Common.{ap, ◌∙◌}
use Rattle.cli_changes.specs.Intakes.{space_after}
use Rattle.cli_changes.specs.declared.space.Place.{Place}
use Rattle.cli_changes.proofs.IntakeLaws.{handed_over_to}
use Rattle.cli_changes.proofs.intake_room.Room.capture_while_space.Goals as goal

pub returns-clause-taken : goal.returns-clause-taken
returns-clause-taken g c = λ space.
    let handed = c.hand_over-answer in record {
      handed_over = handed_over_to g.A.Records.keeper c.args.self.now handed.new.self c.count.new.self c.args.octets.items handed.result
          c.count.ensures.desk handed.ensures.handed_over;
      space = c.count.ensures.space
          ∙ ap (λ (p : Place). space_after handed.result c.len-length.result p.space) handed.ensures.place.place
          ∙ ap (λ n. space_after handed.result n c.args.self.now.place.space) (c.len-length.ensures ∙ c.args.octets.ok.0);
      next = c.count.ensures.next ∙ handed.ensures.place.next;
    }
