use Rattle.std.proofs.Common.{All, take}
use Rattle.cli_tasks.specs.Refiles.{RefilesWhereAny}
use Rattle.cli_tasks.proofs.volume_refilings.refile_each.Given as goal

abbrev pub invariant-loop-of_volume : goal.invariant-loop-of_volume
invariant-loop-of_volume g l =
    All (RefilesWhereAny g.A.Kept.Store (g.A.Archives.is_at l.fn.archives) l.fn.volumes.folder.now l.fn.told l.fn.asked.to.now
    l.fn.asked.typed.now l.fn.asked.questions.now) (take l.of_volume-index l.listed)
