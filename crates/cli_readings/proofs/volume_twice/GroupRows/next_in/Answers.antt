use Rattle.std.proofs.Common.{◌∙◌, ap, sym}
use Rattle.std.specs.Prelude.{slice_get}
use Rattle.cli_readings.specs.Groups.{records_of}
use Rattle.cli_readings.proofs.volume_twice.GroupRows.next_in.Goals as goal

pub returns-then-next-volume : goal.returns-then-next-volume
returns-then-next-volume c =
    let group = c.args.self.now in record {
      next = ap (λ n. slice_get (records_of group.keyed.1) n) (sym (c.len.ensures ∙ group.rows.ok.0)) ∙ sym c.record.ensures ∙ c.in-Some.is;
      volume_is = c.if-next-volume.true;
    }
