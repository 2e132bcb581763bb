use Rattle.std.proofs.Common.{◌∙◌, ap}
use Rattle.cli_readings.specs.Twice.{other_sum, sum_text, utf8_sum}
use Rattle.cli_readings.proofs.twice.sum_text.Goals as goal

pub returns-in-Ok : goal.returns-in-Ok
returns-in-Ok c = c.in-Ok.ensures.cases.0 ∙ utf8_sum c.as_slice.result.now c.in-Ok.ensures.cases.1 ∙ ap sum_text c.as_slice.ensures.value

pub returns-in-Err : goal.returns-in-Err
returns-in-Err c = other_sum c.as_slice.result.now c.in-Err.ensures.cases.0 ∙ ap sum_text c.as_slice.ensures.value
