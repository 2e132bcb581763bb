use Rattle.std.proofs.Common.{is_ok, ap, subst, [], ◌∷◌, Bool, true, false}
use Rattle.cli_volumes.specs.Finding as call
use Rattle.cli_volumes.specs.Finding.{Call, Makes}
use Rattle.cli_volumes.proofs.CallLaws.{both_made}
use Rattle.cli_volumes.proofs.rolling.begin.Goals as goal

pub returns-in-Err : goal.returns-in-Err
returns-in-Err g c =
    let calls = call.begin c.args.volume false ∷ [] in (
      calls,
      (let P : Bool → Type 0 = λ done. Makes g.F.VolumeFolder.made c.args.folder.now c.begin.new.self (call.begin c.args.volume done ∷ []) in
          subst P (ap is_ok c.in-Err.is) c.begin.ensures),
      call.not_begun c.args.volume,
    )

pub returns-in-Ok-note : goal.returns-in-Ok-note
returns-in-Ok-note g c =
    let made = g.F.VolumeFolder.made in (
      call.begin c.args.volume true ∷ call.note c.args.volume true ∷ [],
      (let P : Bool → Type 0 = λ done. Makes made c.args.folder.now c.begin.new.self (call.begin c.args.volume done ∷ []) in
          let Q : Bool → Type 0 = λ done. Makes made c.begin.new.self c.note.new.self (call.note c.args.volume done ∷ []) in
          both_made made c.args.folder.now c.begin.new.self c.note.new.self (call.begin c.args.volume true ∷ [])
          (call.note c.args.volume true ∷ [])
          (subst P (ap is_ok c.in-Ok.is) c.begin.ensures) (subst Q (ap is_ok c.in-Ok-note.is) c.note.ensures)),
      call.begun c.args.volume,
    )

pub returns-in-Err-note : goal.returns-in-Err-note
returns-in-Err-note g c =
    let made = g.F.VolumeFolder.made in (
      call.begin c.args.volume true ∷ call.note c.args.volume false ∷ [],
      (let P : Bool → Type 0 = λ done. Makes made c.args.folder.now c.begin.new.self (call.begin c.args.volume done ∷ []) in
          let Q : Bool → Type 0 = λ done. Makes made c.begin.new.self c.note.new.self (call.note c.args.volume done ∷ []) in
          both_made made c.args.folder.now c.begin.new.self c.note.new.self (call.begin c.args.volume true ∷ [])
          (call.note c.args.volume false ∷ [])
          (subst P (ap is_ok c.in-Ok.is) c.begin.ensures) (subst Q (ap is_ok c.in-Err-note.is) c.note.ensures)),
      call.begun_not_noted c.args.volume,
    )
