use Rattle.cli_tasks.specs.Releases.{ListsEach}
use Rattle.cli_tasks.proofs.volume_changes.list_in_each.Given as goal

abbrev pub invariant-loop-below : goal.invariant-loop-below
invariant-loop-below g l =
    ListsEach g.A.Kept.Store (g.A.Archives.is_at l.fn.archives) l.fn.volumes.folder.now l.fn.name l.below l.listed.items
