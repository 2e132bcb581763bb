use Rattle.record_volumes.proofs.RollingLaws.{each_once}
use Rattle.record_volumes.proofs.laws.captures_roll.Goals as goal

pub returns : goal.returns
returns c = each_once
