use Rattle.cli_tasks.specs.Volumes.{HoldsInEach}
use Rattle.cli_tasks.proofs.volume_changes.hold_in_each.Given as goal

abbrev pub invariant-loop-below : goal.invariant-loop-below
invariant-loop-below g l =
    HoldsInEach g.A.Kept.Store (g.A.Archives.is_at l.fn.archives) l.fn.volumes.folder.now l.fn.told l.fn.hold.change l.fn.hold.name.now
    l.fn.typed l.fn.questions l.below l.tally
