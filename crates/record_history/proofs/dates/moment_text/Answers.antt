use Rattle.std.proofs.Common.{◌∙◌}
use Rattle.record_history.proofs.DayLemmas.{moment_digits}
use Rattle.record_history.proofs.dates.moment_text.Goals as goal

pub returns : goal.returns
returns c = c.in_ok-push_time.ensures ∙ moment_digits c.args.moment _ c.in_ok-text.text.items (c.in_ok-text.ensures) c.civil_of-year.ensures.civil
