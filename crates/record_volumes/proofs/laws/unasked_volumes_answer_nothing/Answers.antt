use Rattle.record_volumes.proofs.JoiningLaws.{none_chosen}
use Rattle.record_volumes.proofs.laws.unasked_volumes_answer_nothing.Goals as goal

pub returns : goal.returns
returns c = none_chosen
