use Rattle.std.proofs.Common.{refl}
use Rattle.cli_changes.proofs.import.dating_at.Goals as goal

pub returns-in_ok-beginning_of-in-On : goal.returns-in_ok-beginning_of-in-On
returns-in_ok-beginning_of-in-On c = rw c.in-On.is (c.in_ok-beginning_of-in-On.field-0, refl, c.in_ok-beginning_of-in-On.ensures)
