use Rattle.std.proofs.Common.{ap, subst, [], ◌∷◌, ◌≡◌, true, false, ℕ, Option, Some, None}
use Rattle.cli_volumes.specs.Finding as call
use Rattle.cli_volumes.specs.Finding.{Call, Finds, Makes, goes_into, is_settled, seen_in, step_of}
use Rattle.cli_volumes.specs.declared.rolling.Seen.{Seen}
use Rattle.cli_volumes.proofs.CallLaws.{both_made}
use Rattle.cli_volumes.proofs.rolling.volume_for_capture.Goals as goal

pub returns-in-Err : goal.returns-in-Err
returns-in-Err g c =
    let P : Option Seen → Type 0 = λ o. Makes g.F.VolumeFolder.made c.args.folder.now c.look.new.self (call.look o ∷ []) in
    (call.look None ∷ [], subst P (ap seen_in c.in-Err.is) c.look.ensures, call.unseen)

pub returns-then-is_settled : goal.returns-then-is_settled
returns-then-is_settled g c =
    let P : Option Seen → Type 0 = λ o. Makes g.F.VolumeFolder.made c.args.folder.now c.look.new.self (call.look o ∷ []) in
    let is : is_settled (step_of c.in-Ok.seen) ≡ true = cc in
    let into : goes_into (step_of c.in-Ok.seen) ≡ c.goes_into.result = cc in
    let Q : ℕ → Type 0 = λ v. Finds (Some v) (call.look (Some c.in-Ok.seen) ∷ []) in
    (call.look (Some c.in-Ok.seen) ∷ [], subst P (ap seen_in c.in-Ok.is) c.look.ensures, subst Q into (call.settled c.in-Ok.seen is))

pub returns : goal.returns
returns g c =
    let made = g.F.VolumeFolder.made in
    let locked = c.find_with_lock.ensures in
    let P : Option Seen → Type 0 = λ o. Makes made c.args.folder.now c.look.new.self (call.look o ∷ []) in
    let unsettled : is_settled (step_of c.in-Ok.seen) ≡ false = cc in (
      call.look (Some c.in-Ok.seen) ∷ locked.0,
      both_made made c.args.folder.now c.look.new.self c.find_with_lock.new.folder (call.look (Some c.in-Ok.seen) ∷ []) locked.0
          (subst P (ap seen_in c.in-Ok.is) c.look.ensures) locked.1,
      call.unsettled c.in-Ok.seen (call.found_in c.find_with_lock.result) locked.0 unsettled locked.2,
    )
