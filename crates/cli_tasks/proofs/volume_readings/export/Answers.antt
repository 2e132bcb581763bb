use Rattle.cli_changes.proofs.SeriesLaws.{on_ok_both}
use Rattle.cli_tasks.proofs.volume_readings.export.Goals as goal

pub returns : goal.returns
returns g c =
    let reading = c.in_ok-reading.reading in
    on_ok_both c.end.result c.end.ensures.some c.end.ensures.well (λ some well. record {
      named = c.in_ok-judge_forgotten.ensures.named;
      numbers = c.in_ok-questions.ensures.numbers;
      questions = c.in_ok-questions.questions;
      asked = c.in_ok-questions.ensures.asked;
      begun = c.new-export.result;
      nothing = c.new-export.ensures;
      whole = reading.reader;
      each = c.in_ok-reading.ensures well;
      some = some;
    })
