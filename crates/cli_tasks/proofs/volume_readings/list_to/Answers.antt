use Rattle.std.proofs.Common.{◌∙◌, ap, is_ok, sym}
use Rattle.cli_console.proofs.JoinedLaws.{not_refused}
use Rattle.cli_tasks.proofs.volume_readings.list_to.Goals as goal

pub returns : goal.returns
returns g c =
    let reading = c.in_ok-reading.reading in
    let well = not_refused reading.joined.is_refused (sym c.end-2.ensures.well ∙ ap is_ok c.in_ok-end.was) in
    record {
      numbers = c.in_ok-questions.ensures.numbers;
      questions = c.in_ok-questions.questions;
      asked = c.in_ok-questions.ensures.asked;
      begun = c.new-list.result;
      is_new = c.new-list.ensures;
      whole = reading.reader;
      each = c.in_ok-reading.ensures well;
      ends = c.in_ok-written.ensures;
    }
