use Rattle.std.proofs.Common.{◌≡◌, pos, ◌*ℤ◌, arith, ◌∙◌}
use Rattle.jiff.specs.Words.{epoch_day, signed_nanos}
use Rattle.jiff.proofs.SpanFacts.{signed_arith}
use Rattle.jiff_core.proofs.DateLemmas.{epoch_day_range, epoch_day-lt}
use Rattle.class_plan.proofs.Days.{epoch_day-zero}
use Rattle.class_plan.proofs.Capture.{number-from_capture}
use Rattle.class_plan.proofs.Due.{earlier-from_number}
use Rattle.class_plan.proofs.dates.day_number.Goals as goal

pub returns-clause-number : goal.returns-clause-number
returns-clause-number c =
    let start = epoch_day-zero c.date.result c.date.ensures.0 c.date.ensures.1 c.date.ensures.2 in
    let range = epoch_day_range c.args.day in
    let nanos : signed_nanos c.duration_until.result ≡ epoch_day c.args.day *ℤ pos 86400000000000 =
    c.duration_until.ensures ∙ rw start (omega (arith, signed_arith)) in
    omega (arith, signed_arith, rw nanos at c.as_hours.ensures)

pub returns-clause-ordered : goal.returns-clause-ordered
returns-clause-ordered c =
    let number = returns-clause-number c in
    λ e. (λ h. rw number (epoch_day-lt c.args.day e h), λ h. earlier-from_number c.args.day e (rw number at h))

pub returns-clause-capture : goal.returns-clause-capture
returns-clause-capture c =
    let number = returns-clause-number c in
    λ day. rw number (number-from_capture c.args.day day)
