use Rattle.std.proofs.Common.{is_ok, ap, subst, [], ◌∷◌, ◌++◌, Bool, true, false}
use Rattle.cli_volumes.specs.Adopting as call
use Rattle.cli_volumes.specs.Adopting.{Call}
use Rattle.cli_volumes.specs.Finding.{Makes}
use Rattle.cli_volumes.proofs.CallLaws.{both_made}
use Rattle.cli_volumes.proofs.adopting.place_with_lock.Goals as goal

pub returns-in-Err : goal.returns-in-Err
returns-in-Err g c =
    let made = g.F.AdoptingFolder.made in
    let P : Bool → Type 0 = λ done. Makes made c.args.folder.now c.lock.new.self (call.lock done ∷ []) in (
      call.lock false ∷ call.discard ∷ [],
      both_made made c.args.folder.now c.lock.new.self c.discard.new.self (call.lock false ∷ []) (call.discard ∷ [])
          (subst P (ap is_ok c.in-Err.is) c.lock.ensures) c.discard.ensures,
      call.refused,
    )

pub returns : goal.returns
returns g c =
    let made = g.F.AdoptingFolder.made in
    let under = c.place_noted-placed.ensures in
    let P : Bool → Type 0 = λ done. Makes made c.args.folder.now c.lock.new.self (call.lock done ∷ []) in (
      call.lock true ∷ (under.0 ++ call.unlock ∷ []),
      both_made made c.args.folder.now c.lock.new.self c.unlock.new.self (call.lock true ∷ []) (under.0 ++ call.unlock ∷ [])
          (subst P (ap is_ok c.in-Ok.is) c.lock.ensures)
          (both_made made c.lock.new.self c.place_noted-placed.new.folder c.unlock.new.self under.0 (call.unlock ∷ []) under.1 c.unlock.ensures),
      call.held (is_ok c.place_noted-placed.result) under.0 under.2,
    )
