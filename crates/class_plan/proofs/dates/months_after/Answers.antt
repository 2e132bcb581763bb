use Rattle.std.proofs.Common.{arith, w64}
use Rattle.std.proofs.lemmas.Int.{to_z_pos}
use Rattle.class_plan.proofs.Months.{months-added}
use Rattle.class_plan.proofs.dates.months_after.Goals as goal

pub returns : goal.returns
returns c =
    let only = rw (to_z_pos w64 c.args.count (omega arith)) at c.months.ensures in
    months-added c.args.day c.saturating_add.result c.args.count _ c.requires.day c.requires.count only c.saturating_add.ensures.fits
