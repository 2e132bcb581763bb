use Rattle.std.proofs.Common.{is_ok, ap, subst, [], ◌∷◌, Bool, true, false}
use Rattle.cli_volumes.specs.Adopting as call
use Rattle.cli_volumes.specs.Adopting.{Call}
use Rattle.cli_volumes.specs.Finding.{Makes}
use Rattle.cli_volumes.proofs.CallLaws.{both_made}
use Rattle.cli_volumes.proofs.adopting.place_noted.Goals as goal

pub returns-in-Ok : goal.returns-in-Ok
returns-in-Ok g c =
    let made = g.F.AdoptingFolder.made in
    let P : Bool → Type 0 = λ done. Makes made c.args.folder.now c.place.new.self (call.place done ∷ []) in (
      call.place true ∷ call.note (is_ok c.note.result) ∷ [],
      both_made made c.args.folder.now c.place.new.self c.note.new.self (call.place true ∷ []) (call.note (is_ok c.note.result) ∷ [])
          (subst P (ap is_ok c.in-Ok.is) c.place.ensures) c.note.ensures,
      call.moved (is_ok c.note.result),
    )

pub returns-in-Err : goal.returns-in-Err
returns-in-Err g c =
    let made = g.F.AdoptingFolder.made in
    let P : Bool → Type 0 = λ done. Makes made c.args.folder.now c.place.new.self (call.place done ∷ []) in (
      call.place false ∷ call.discard ∷ [],
      both_made made c.args.folder.now c.place.new.self c.discard.new.self (call.place false ∷ []) (call.discard ∷ [])
          (subst P (ap is_ok c.in-Err.is) c.place.ensures) c.discard.ensures,
      call.unmoved,
    )
