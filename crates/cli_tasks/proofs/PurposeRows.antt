-- The purposes of changes on worked rows.
use Rattle.std.proofs.Common.{◌≡◌, true, false, refl}
use Rattle.cli_choice.specs.declared.holds.Change.TheVariants as hold
use Rattle.cli_history.specs.Reasons.{changes, ends}
use Rattle.cli_tasks.specs.Purposes.{for_disposal, for_hold}

-- to place a hold ends nothing, and to end one can
placed : ends (for_hold hold.Place) ≡ false
placed = refl

ended : ends (for_hold hold.End) ≡ true
ended = refl

-- a list changes nothing, and a disposal can end the keeping of records
listed : changes (for_disposal false) ≡ false
listed = refl

disposed : ends (for_disposal true) ≡ true
disposed = refl
