use Rattle.std.proofs.Common.{ap, subst, [], ◌∷◌, Option, Some, None}
use Rattle.cli_volumes.specs.Finding as call
use Rattle.cli_volumes.specs.Finding.{Call, IsTaken, Makes, seen_in}
use Rattle.cli_volumes.proofs.CallLaws.{both_made}
use Rattle.cli_volumes.proofs.rolling.find_locked.Goals as goal
use Rattle.cli_volumes.specs.declared.rolling.Seen.{Seen}
use Rattle.cli_volumes.specs.declared.rolling.Step.{Step}

pub returns-in-Ok : goal.returns-in-Ok
returns-in-Ok g c =
    let made = g.F.VolumeFolder.made in
    let taken = c.take_step.ensures in
    let P : Option Seen → Type 0 = λ o. Makes made c.args.folder.now c.look.new.self (call.look o ∷ []) in
    let T : Step → Type 0 = λ s. IsTaken s (call.found_in c.take_step.result) taken.0 in (
      call.look (Some c.in-Ok.seen) ∷ taken.0,
      both_made made c.args.folder.now c.look.new.self c.take_step.new.folder (call.look (Some c.in-Ok.seen) ∷ []) taken.0
          (subst P (ap seen_in c.in-Ok.is) c.look.ensures) taken.1,
      call.looked c.in-Ok.seen (call.found_in c.take_step.result) taken.0 (subst T c.step_of.ensures taken.2),
    )

pub returns-in-Err : goal.returns-in-Err
returns-in-Err g c =
    let P : Option Seen → Type 0 = λ o. Makes g.F.VolumeFolder.made c.args.folder.now c.look.new.self (call.look o ∷ []) in
    (call.look None ∷ [], subst P (ap seen_in c.in-Err.is) c.look.ensures, call.blind)
