use Rattle.std.proofs.Common.{refl, inl, inr}
use Rattle.cli_changes.proofs.rules.FilingRules.set_these.Goals as goal

pub returns-in-Ok : goal.returns-in-Ok
returns-in-Ok g c = inl (c.in-Ok.ensures.set, refl)

pub returns-in-Err : goal.returns-in-Err
returns-in-Err g c = inr (c.in-Err.fault, c.in-Err.ensures.stopped, c.excuse.ensures)
