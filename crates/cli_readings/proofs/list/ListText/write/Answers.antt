use Rattle.std.proofs.Common.{refl, subst}
use Rattle.record_archive.specs.Archive.{Archive}
use Rattle.cli_readings.specs.Lists.{text_written}
use Rattle.cli_console.specs.Sinks.{Writes}
use Rattle.cli_readings.proofs.list.ListText.write.Goals as goal

pub returns-clause-same : goal.returns-clause-same
returns-clause-same g c = λ (a : Archive).
    let list = c.args.self.now in
    text_written g.K.Sink.written a list _
    (subst (λ t. Writes g.K.Sink.written list.sink c.write.new.self t) c.as_slice.ensures.value c.in_ok-write.ensures) c.clear.ensures.items refl refl
