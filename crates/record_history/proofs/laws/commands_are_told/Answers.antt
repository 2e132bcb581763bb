use Rattle.record_history.proofs.ReplayLemmas.{all_told}
use Rattle.record_history.proofs.laws.commands_are_told.Goals as goal

pub returns : goal.returns
returns c = all_told
