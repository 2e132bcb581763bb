use Rattle.cli_tasks.specs.Twins.{DoneWithEach, GathersIn}
use Rattle.cli_tasks.proofs.volume_twice.gather_all.Given as goal

abbrev pub invariant-loop-below : goal.invariant-loop-below
invariant-loop-below g l =
    DoneWithEach (GathersIn g.A.Kept.Store (g.A.Archives.is_at l.fn.archives) l.fn.volumes.folder.now) l.below l.fn.groups l.groups
