-- Calls by which a store becomes a first volume, and calls by which it does not.
use Rattle.std.proofs.Common.{[], ◌∷◌, true, false}
use Rattle.cli_volumes.specs.Adopting as call
use Rattle.cli_volumes.specs.Adopting.{Adopts}

moved_so : Adopts true
    (call.look true ∷ call.judge true ∷ call.make true ∷ call.lock true ∷ call.place true ∷ call.note true ∷ call.unlock ∷ [])
moved_so =
    call.made_so true (call.lock true ∷ call.place true ∷ call.note true ∷ call.unlock ∷ [])
    (call.held true (call.place true ∷ call.note true ∷ []) (call.moved true))

stays_so : Adopts false
    (call.look true ∷ call.judge true ∷ call.make true ∷ call.lock true ∷ call.place false ∷ call.discard ∷ call.unlock ∷ [])
stays_so =
    call.made_so false (call.lock true ∷ call.place false ∷ call.discard ∷ call.unlock ∷ [])
    (call.held false (call.place false ∷ call.discard ∷ []) call.unmoved)
