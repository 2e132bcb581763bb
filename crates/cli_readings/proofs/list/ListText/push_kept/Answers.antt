use Rattle.std.proofs.Common.{refl}
use Rattle.cli_readings.specs.Lists.{text_kept}
use Rattle.cli_readings.specs.declared.list.ListText.{ListText}
use Rattle.cli_readings.proofs.list.ListText.push_kept.Goals as goal

pub returns-clause-text : goal.returns-clause-text
returns-clause-text g c =
    let list = c.args.self.now in
    let more : ListText g.row.K.Denot = record list { text = c.extend_from_slice.new.self; count = c.saturating_add-self.result } in
    text_kept g.K.Sink.written list more c.args.row.now refl c.in_ok-extend_from_slice.ensures.items
