use Rattle.std.proofs.Common.{pos, ◌+ℤ◌, ◌/◌, arith, w64, ◌∙◌}
use Rattle.std.proofs.lemmas.Int.{to_z_pos}
use Rattle.jiff.specs.Words.{epoch_day, IsEpochDay}
use Rattle.jiff.proofs.SpanFacts.{signed_arith}
use Rattle.class_plan.proofs.Capture.{capture-from_number}
use Rattle.class_plan.proofs.Days.{days-added, epoch_day-zero}
use Rattle.class_plan.proofs.dates.day_of.Goals as goal

pub returns-clause-date : goal.returns-clause-date
returns-clause-date c =
    let only = rw (to_z_pos w64 (c.args.moment / 86400) (omega arith)) at c.days.ensures in
    let start = epoch_day-zero c.date.result c.date.ensures.0 c.date.ensures.1 c.date.ensures.2 in
    let in_range : IsEpochDay (epoch_day c.date.result +ℤ pos (c.args.moment / 86400)) =
    rw start (omega (arith, signed_arith), omega (arith, signed_arith)) in (
      omega arith,
      days-added c.date.result c.saturating_add.result _ _ only c.saturating_add.ensures.fits in_range
          ∙ rw start (omega (arith, signed_arith)),
    )

pub returns-clause-capture : goal.returns-clause-capture
returns-clause-capture c =
    let date = returns-clause-date c in
    let low = date.0 in
    let number = date.1 in
    capture-from_number c.saturating_add.result (omega (arith, signed_arith)) (omega (arith, signed_arith))
