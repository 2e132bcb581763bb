use Rattle.std.proofs.Common.{is_ok, ap, subst, [], ◌∷◌, Bool, true, false}
use Rattle.cli_volumes.specs.Adopting as call
use Rattle.cli_volumes.specs.Adopting.{Call}
use Rattle.cli_volumes.specs.Finding.{Makes}
use Rattle.cli_volumes.proofs.CallLaws.{both_made}
use Rattle.cli_volumes.proofs.adopting.adopt_into.Goals as goal

pub returns-in-Err : goal.returns-in-Err
returns-in-Err g c =
    let P : Bool → Type 0 = λ done. Makes g.F.AdoptingFolder.made c.args.folder.now c.look.new.self (call.look done ∷ []) in
    (call.look false ∷ [], subst P (ap is_ok c.in-Err.is) c.look.ensures, call.there)

pub returns-in-Err-judge : goal.returns-in-Err-judge
returns-in-Err-judge g c =
    let made = g.F.AdoptingFolder.made in
    let P : Bool → Type 0 = λ done. Makes made c.args.folder.now c.look.new.self (call.look done ∷ []) in
    let Q : Bool → Type 0 = λ done. Makes made c.look.new.self c.judge.new.self (call.judge done ∷ []) in (
      call.look true ∷ call.judge false ∷ [],
      both_made made c.args.folder.now c.look.new.self c.judge.new.self (call.look true ∷ []) (call.judge false ∷ [])
          (subst P (ap is_ok c.in-Ok.is) c.look.ensures) (subst Q (ap is_ok c.in-Err-judge.is) c.judge.ensures),
      call.bad,
    )

pub returns-in-Err-make : goal.returns-in-Err-make
returns-in-Err-make g c =
    let made = g.F.AdoptingFolder.made in
    let P : Bool → Type 0 = λ done. Makes made c.args.folder.now c.look.new.self (call.look done ∷ []) in
    let Q : Bool → Type 0 = λ done. Makes made c.look.new.self c.judge.new.self (call.judge done ∷ []) in
    let R : Bool → Type 0 = λ done. Makes made c.judge.new.self c.make.new.self (call.make done ∷ []) in (
      call.look true ∷ call.judge true ∷ call.make false ∷ [],
      both_made made c.args.folder.now c.look.new.self c.make.new.self (call.look true ∷ []) (call.judge true ∷ call.make false ∷ [])
          (subst P (ap is_ok c.in-Ok.is) c.look.ensures)
          (both_made made c.look.new.self c.judge.new.self c.make.new.self (call.judge true ∷ []) (call.make false ∷ [])
          (subst Q (ap is_ok c.in-Ok-judge.is) c.judge.ensures) (subst R (ap is_ok c.in-Err-make.is) c.make.ensures)),
      call.unmade,
    )

pub returns : goal.returns
returns g c =
    let made = g.F.AdoptingFolder.made in
    let locked = c.place_with_lock.ensures in
    let P : Bool → Type 0 = λ done. Makes made c.args.folder.now c.look.new.self (call.look done ∷ []) in
    let Q : Bool → Type 0 = λ done. Makes made c.look.new.self c.judge.new.self (call.judge done ∷ []) in
    let R : Bool → Type 0 = λ done. Makes made c.judge.new.self c.make.new.self (call.make done ∷ []) in (
      call.look true ∷ call.judge true ∷ call.make true ∷ locked.0,
      both_made made c.args.folder.now c.look.new.self c.place_with_lock.new.folder (call.look true ∷ [])
          (call.judge true ∷ call.make true ∷ locked.0) (subst P (ap is_ok c.in-Ok.is) c.look.ensures)
          (both_made made c.look.new.self c.judge.new.self c.place_with_lock.new.folder (call.judge true ∷ []) (call.make true ∷ locked.0)
          (subst Q (ap is_ok c.in-Ok-judge.is) c.judge.ensures)
          (both_made made c.judge.new.self c.make.new.self c.place_with_lock.new.folder (call.make true ∷ []) locked.0
          (subst R (ap is_ok c.in-Ok-make.is) c.make.ensures) locked.1)),
      call.made_so (is_ok c.place_with_lock.result) locked.0 locked.2,
    )
