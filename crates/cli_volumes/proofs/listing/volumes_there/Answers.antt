use Rattle.std.proofs.Common.{get_or, take, ◌≡◌, ◌∷◌, [], ◌++◌}
use Rattle.std.proofs.lemmas.List.{take_more}
use Rattle.cli_volumes.proofs.RowLaws.{one_there, one_lacking}
use Rattle.cli_volumes.proofs.listing.volumes_there.Goals as goal
use Rattle.cli_volumes.proofs.listing.volumes_there.Goals.{then-branch+in_ok-push, else-branch}

pub loop-volume-preserved : goal.loop-volume-preserved
loop-volume-preserved g c =
    let leads = g.F.ListedFolder.leads c.args.folder.now in
    let volume = get_or c.args.named.now c.loop-volume.volume-index 0 in
    let before = take c.loop-volume.volume-index c.args.named.now in
    rw (take_more c.args.named.now c.loop-volume.volume-index 0 c.loop-volume-test.true)
    (elim c.if-branch.branch [
      | then-branch+in_ok-push w ↦
          (let added : c.if-branch.there.items ≡ c.loop-volume.there.items ++ volume ∷ [] = cc (w.in_ok-push.ensures.items) in
          one_there leads before c.loop-volume.there.items c.if-branch.there.items volume c.in_ok-is_there.field-0 c.in_ok-is_there.ensures
          w.if-branch.true added c.loop-volume.invariant)
      | else-branch w ↦
          (let same : c.if-branch.there.items ≡ c.loop-volume.there.items = cc in
          one_lacking leads before c.loop-volume.there.items c.if-branch.there.items volume c.in_ok-is_there.field-0 c.in_ok-is_there.ensures
          w.if-branch.false same c.loop-volume.invariant)
    ])
