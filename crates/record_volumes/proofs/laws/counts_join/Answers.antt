use Rattle.record_volumes.proofs.JoiningLaws.{counts_joined}
use Rattle.record_volumes.proofs.laws.counts_join.Goals as goal

pub returns : goal.returns
returns c = counts_joined
