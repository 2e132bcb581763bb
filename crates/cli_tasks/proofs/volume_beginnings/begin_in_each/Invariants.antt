use Rattle.cli_tasks.specs.Histories.{BeginsIn, DoneInSome}
use Rattle.cli_tasks.proofs.volume_beginnings.begin_in_each.Given as goal

abbrev pub invariant-loop-below : goal.invariant-loop-below
invariant-loop-below g l =
    DoneInSome (BeginsIn g.A.Kept.Store (g.A.Archives.is_at l.fn.archives) l.fn.volumes.folder.now) l.is_any l.below
