use Rattle.rule_folders.proofs.Exactly.{exactly}
use Rattle.rule_folders.proofs.laws.reached_are_exactly.Goals as goal

pub returns : goal.returns
returns c = exactly
