use Rattle.std.proofs.Common.{◌∙◌, ap, is_ok, sym}
use Rattle.cli_console.proofs.JoinedLaws.{if_well, not_refused}
use Rattle.cli_tasks.proofs.ReadingLaws.{day_as_typed}
use Rattle.cli_tasks.proofs.volume_readings.report.Goals as goal

pub returns-clause-reports : goal.returns-clause-reports
returns-clause-reports g c =
    let reading = c.in_ok-reading.reading in
    let well = not_refused reading.joined.is_refused (sym c.end.ensures.well ∙ ap is_ok c.in_ok-end.was) in
    if_well c.write.result (λ done. record {
      numbers = c.in_ok-questions.ensures.numbers;
      day = c.in_ok-by_day.by_day;
      as_typed = day_as_typed c.args.day c.day_or_today.result c.in_ok-by_day.by_day c.day_or_today.ensures c.in_ok-by_day.was;
      questions = c.in_ok-questions.questions;
      asked = c.in_ok-questions.ensures.asked;
      begun = c.in_ok-report.report;
      by_day = c.in_ok-report.ensures;
      whole = reading.reader;
      each = c.in_ok-reading.ensures well;
    })
