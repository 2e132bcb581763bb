use Rattle.std.proofs.Common.{refl, subst}
use Rattle.cli_console.specs.Sinks.{Writes}
use Rattle.cli_readings.specs.Lists.{HasText}
use Rattle.cli_readings.proofs.volume_lists.VolumeList.begin.Goals as goal

pub returns : goal.returns
returns g c = record {
  added = subst (λ t. Writes (HasText g.K.Sink.written) c.args.self.now.list c.put.new.self t) c.text_ahead-text.ensures c.in_ok-put.ensures.text;
  counted = c.in_ok-put.ensures.count;
  listing = c.in_ok-put.ensures.listing;
  begun = refl;
}
