use Rattle.record_volumes.proofs.JoiningLaws.{choices_joined}
use Rattle.record_volumes.proofs.laws.choices_join.Goals as goal

pub returns : goal.returns
returns c = choices_joined
