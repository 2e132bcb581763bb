use Rattle.std.proofs.Common.{◌≡◌, false}
use Rattle.cli_tasks.specs.Disposals.{DisposesIn, WhereAsked}
use Rattle.cli_tasks.specs.Works.{EachVolume}
use Rattle.cli_tasks.proofs.volume_disposals.dispose_in_each.Given as goal

abbrev pub invariant-loop-below : goal.invariant-loop-below
invariant-loop-below g l = l.joined.is_refused ≡ false → EachVolume l.below (λ v. WhereAsked l.fn.typed v
    (DisposesIn g.A.Kept.Store (g.A.Archives.is_at l.fn.archives) l.fn.volumes.folder.now l.fn.told l.fn.day v))
