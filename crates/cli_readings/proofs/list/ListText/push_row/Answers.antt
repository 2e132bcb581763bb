use Rattle.std.proofs.Common.{◌∙◌, ◌++◌, ap, refl}
use Rattle.record_archive.specs.Archive.{Archive}
use Rattle.cli_readings.specs.Lists.{row_pushed}
use Rattle.cli_readings.specs.declared.list.ListText.{ListText}
use Rattle.cli_readings.proofs.list.ListText.push_row.Goals as goal

pub returns : goal.returns
returns g c = λ (a : Archive) are.
    let list = c.args.self.now in
    let more : ListText g.row.K.Denot = record list { text = c.extend_from_slice.new.self; count = c.saturating_add-self.result } in
    row_pushed g.K.Sink.written a list more c.args.is_first c.args.entry.now c.in_ok-text.text.items (record {
      row = c.row_of-row.result;
      row_is = c.row_of-row.ensures;
      headers = c.args.headers;
      headers_are = are;
      text_is = c.in_ok-text.ensures;
    }) refl (c.in_ok-extend_from_slice.ensures.items ∙ ap (λ t. list.text.items ++ t) c.as_slice.ensures.value) c.saturating_add-self.ensures refl
