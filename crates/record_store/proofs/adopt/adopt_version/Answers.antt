use Rattle.std.proofs.Common.{subst}
use Rattle.sqlite.specs.State.{HasCleanDisk}
use Rattle.sqlite.specs.Held.{state}
use Rattle.record_store.proofs.adopt.adopt_version.Goals as goal

pub returns-in-Ok-clause-sound : goal.returns-in-Ok-clause-sound
returns-in-Ok-clause-sound g c clean =
    c.in-Ok.ensures.sound (subst (λ h. HasCleanDisk (state g.S.Store h)) c.store_over.ensures.conn clean)

pub returns-in-Ok-clause-typed : goal.returns-in-Ok-clause-typed
returns-in-Ok-clause-typed g c clean =
    c.in-Ok.ensures.typed (subst (λ h. HasCleanDisk (state g.S.Store h)) c.store_over.ensures.conn clean)
