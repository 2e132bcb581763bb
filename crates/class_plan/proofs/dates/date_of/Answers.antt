use Rattle.std.proofs.Common.{sym, pos, ◌+ℤ◌, ◌≤ℤ◌, arith, w64, ◌∙◌, FitsSigned}
use Rattle.std.proofs.lemmas.Int.{to_z-of_z, ints}
use Rattle.jiff.specs.Words.{epoch_day, IsEpochDay}
use Rattle.jiff.proofs.SpanFacts.{signed_arith}
use Rattle.class_plan.proofs.Capture.{capture-from_number}
use Rattle.class_plan.proofs.Days.{days-added, epoch_day-zero}
use Rattle.jiff_core.proofs.DateLemmas.{epoch_day_injective}
use Rattle.class_plan.proofs.dates.date_of.Goals as goal

pub returns-clause-date : goal.returns-clause-date
returns-clause-date c =
    let f : FitsSigned w64 c.args.number = c.ranges.number in
    let only = simp to_z-of_z at c.days.ensures in
    let low : pos 0 ≤ℤ c.args.number = grind (arith, ints) in
    let high : c.args.number ≤ℤ pos 2932896 = grind (arith, ints) in
    let start = epoch_day-zero c.date.result c.date.ensures.0 c.date.ensures.1 c.date.ensures.2 in
    let in_range : IsEpochDay (epoch_day c.date.result +ℤ c.args.number) = rw start (omega (arith, signed_arith), omega (arith, signed_arith)) in (
      (low, high),
      days-added c.date.result c.saturating_add.result _ _ only c.saturating_add.ensures.fits in_range
          ∙ rw start (omega (arith, signed_arith)),
    )

pub returns-clause-only : goal.returns-clause-only
returns-clause-only c = λ e same range. epoch_day_injective e c.saturating_add.result (same ∙ sym (returns-clause-date c).1)

pub returns-clause-capture : goal.returns-clause-capture
returns-clause-capture c =
    let date = returns-clause-date c in
    let low = date.0.0 in
    let number = date.1 in
    λ below. capture-from_number c.saturating_add.result (omega (arith, signed_arith)) (omega (arith, signed_arith))
