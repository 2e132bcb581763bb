use Rattle.std.proofs.Common.{ap, sym, subst, ◌∙◌}
use Rattle.cli_changes.specs.Imports.{IsHandedOver, done_with, space_after}
use Rattle.cli_changes.specs.declared.import_rounds.Reached.{Reached}
use Rattle.cli_changes.specs.declared.space.Place.{Place}
use Rattle.cli_changes.proofs.import_room.ImportRoom.capture_while_space.Goals as goal

pub returns-clause-taken : goal.returns-clause-taken
returns-clause-taken g c = λ space.
    let handed = c.hand_over-answer in
    let counted = c.count.ensures in
    let before = c.args.self.now in record {
      job = counted.job ∙ handed.ensures.job;
      handed_over = subst (IsHandedOver g.A.Records.keeper before.job.filing.officer.now before.job.filing.on_fault before.place.volume
          c.args.moment c.args.octets.items handed.result before.desk) (sym counted.desk) handed.ensures.desk;
      is_full = counted.is_full ∙ handed.ensures.place.is_full;
      volume = counted.volume ∙ ap (λ (p : Place). p.volume) handed.ensures.place.place;
      space = counted.space
          ∙ ap (λ (p : Place). space_after handed.result c.len-length.result p.space) handed.ensures.place.place
          ∙ ap (λ n. space_after handed.result n before.place.space) (c.len-length.ensures ∙ c.args.octets.ok.0);
      messages = counted.messages ∙ ap (λ (r : Reached). done_with handed.result r.messages) handed.ensures.place.reached;
    }
