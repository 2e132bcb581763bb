use Rattle.std.proofs.Common.{◌+◌, Bool, subst}
use Rattle.cli_tasks.specs.Changes.{ShowsHold}
use Rattle.cli_tasks.specs.Works.{InVolume}
use Rattle.cli_tasks.proofs.volume_changes.is_held_in_any.Goals as goal

pub returns-then-is_held : goal.returns-then-is_held
returns-then-is_held g c = λ yes.
    let below = c.loop-below.below in (
      below,
      c.loop-below-test.true,
      subst (λ (b : Bool). InVolume (g.A.Archives.is_at c.args.archives.now) c.args.volumes.folder.now (below + 1)
          (λ before after. ShowsHold g.A.Kept.Store c.args.name.now before after b)) c.if-is_held.true c.in_ok-is_held.ensures,
    )
