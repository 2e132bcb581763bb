use Rattle.std.proofs.Common.{is_ok, ap, subst, [], ◌∷◌, ◌++◌, Bool, true, false}
use Rattle.cli_volumes.specs.Finding as call
use Rattle.cli_volumes.specs.Finding.{Call, Makes}
use Rattle.cli_volumes.proofs.CallLaws.{both_made}
use Rattle.cli_volumes.proofs.rolling.find_with_lock.Goals as goal

pub returns-in-Err : goal.returns-in-Err
returns-in-Err g c =
    let P : Bool → Type 0 = λ done. Makes g.F.VolumeFolder.made c.args.folder.now c.lock.new.self (call.lock done ∷ []) in
    (call.lock false ∷ [], subst P (ap is_ok c.in-Err.is) c.lock.ensures, call.refused)

pub returns : goal.returns
returns g c =
    let made = g.F.VolumeFolder.made in
    let under = c.find_locked-found.ensures in
    let P : Bool → Type 0 = λ done. Makes made c.args.folder.now c.lock.new.self (call.lock done ∷ []) in (
      call.lock true ∷ (under.0 ++ call.unlock ∷ []),
      both_made made c.args.folder.now c.lock.new.self c.unlock.new.self (call.lock true ∷ []) (under.0 ++ call.unlock ∷ [])
          (subst P (ap is_ok c.in-Ok.is) c.lock.ensures)
          (both_made made c.lock.new.self c.find_locked-found.new.folder c.unlock.new.self under.0 (call.unlock ∷ []) under.1 c.unlock.ensures),
      call.held (call.found_in c.find_locked-found.result) under.0 under.2,
    )
