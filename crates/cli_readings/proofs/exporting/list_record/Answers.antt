use Rattle.std.proofs.Common.{refl}
use Rattle.cli_readings.specs.Exporting.{more_over}
use Rattle.cli_readings.proofs.exporting.list_record.Goals as goal

pub returns : goal.returns
returns g c =
    let made = g.D.Destination.made in (
      _,
      record {
        shown = c.record_of.result;
        shown_is = c.record_of.ensures;
        line = c.row_of.result;
        line_is = c.row_of.ensures;
        parts_are = refl;
      },
      more_over made c.args.out.now c.follow.new.self c.write_row.new.self _ _
          (more_over made c.args.out.now c.list.new.self c.follow.new.self _ _ c.in_ok-list.ensures c.in_ok-follow.ensures) c.in_ok-write_row.ensures,
    )
