use Rattle.record_volumes.proofs.JoiningLaws.{answered_alone}
use Rattle.record_volumes.proofs.laws.volumes_answer_alone.Goals as goal

pub returns : goal.returns
returns c = answered_alone
