use Rattle.std.proofs.Common.{[], Some, sym, subst}
use Rattle.cli_volumes.specs.Finding as call
use Rattle.cli_volumes.specs.Finding.{Call, IsTaken}
use Rattle.cli_volumes.proofs.CallLaws.{none_made}
use Rattle.cli_volumes.proofs.rolling.take_step.Goals as goal
use Rattle.cli_volumes.specs.declared.rolling.Step.{Step}

pub returns-in-Into : goal.returns-in-Into
returns-in-Into g c = (
  [],
  none_made g.F.VolumeFolder.made c.args.folder.now,
  (let P : Step → Type 0 = λ s. IsTaken s (Some c.in-Into.volume) [] in subst P (sym c.in-Into.is) (call.nothing c.in-Into.volume)),
)
