use Rattle.std.proofs.Common.{◌≡◌, false}
use Rattle.cli_tasks.specs.Histories.{AcceptsIn, DoneInSome}
use Rattle.cli_tasks.proofs.volume_beginnings.accept_in_each.Given as goal

abbrev pub invariant-loop-below : goal.invariant-loop-below
invariant-loop-below g l = l.joined.is_refused ≡ false
    → DoneInSome (AcceptsIn g.A.Kept.Store (g.A.Archives.is_at l.fn.archives) l.fn.volumes.folder.now l.fn.told) l.is_any l.below
