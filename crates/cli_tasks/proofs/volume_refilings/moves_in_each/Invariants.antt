use Rattle.cli_tasks.specs.Refiles.{MovesEach}
use Rattle.cli_tasks.proofs.volume_refilings.moves_in_each.Given as goal

abbrev pub invariant-loop-below : goal.invariant-loop-below
invariant-loop-below g l =
    MovesEach g.A.Kept.Store (g.A.Archives.is_at l.fn.archives) l.fn.volumes.folder.now l.fn.asked.to.now l.fn.asked.typed.now
    l.fn.asked.questions.now l.below l.tally l.listed.items
