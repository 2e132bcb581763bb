use Rattle.std.proofs.Common.{◌∙◌}
use Rattle.cli_readings.specs.Groups.{records_of}
use Rattle.cli_readings.proofs.VolumeTwiceLaws.{whole_at}
use Rattle.cli_readings.proofs.volume_twice.GroupRows.is_whole.Goals as goal

pub returns : goal.returns
returns c = λ last.
    let group = c.args.self.now in
    whole_at (records_of group.keyed.1) c.len.result _ c.record.result c.is_none.result c.record.ensures (c.len.ensures ∙ group.rows.ok.0)
    c.is_none.ensures last
