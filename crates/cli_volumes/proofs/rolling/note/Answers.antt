use Rattle.std.proofs.Common.{is_ok, ap, subst, [], ◌∷◌, Bool, true, false}
use Rattle.cli_volumes.specs.Finding as call
use Rattle.cli_volumes.specs.Finding.{Call, Makes}
use Rattle.cli_volumes.proofs.rolling.note.Goals as goal

pub returns-in-Ok : goal.returns-in-Ok
returns-in-Ok g c = (
  call.note c.args.volume true ∷ [],
  (let P : Bool → Type 0 = λ done. Makes g.F.VolumeFolder.made c.args.folder.now c.note.new.self (call.note c.args.volume done ∷ []) in
      subst P (ap is_ok c.in-Ok.is) c.note.ensures),
  call.noted c.args.volume,
)

pub returns-in-Err : goal.returns-in-Err
returns-in-Err g c = (
  call.note c.args.volume false ∷ [],
  (let P : Bool → Type 0 = λ done. Makes g.F.VolumeFolder.made c.args.folder.now c.note.new.self (call.note c.args.volume done ∷ []) in
      subst P (ap is_ok c.in-Err.is) c.note.ensures),
  call.not_noted c.args.volume,
)
