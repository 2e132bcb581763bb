use Rattle.std.proofs.Common.{◌∙◌, ◌++◌, ap, refl}
use Rattle.cli_readings.specs.Lists.{text_kept}
use Rattle.cli_readings.proofs.list.ListText.push.Goals as goal

pub returns-clause-text : goal.returns-clause-text
returns-clause-text g c =
    let list = c.args.self.now in
    text_kept g.K.Sink.written list (record list { text = c.extend_from_slice.new.self }) c.args.text.now refl
    (c.in_ok-extend_from_slice.ensures.items ∙ ap (λ t. list.text.items ++ t) c.as_bytes.ensures.value)
