use Rattle.std.proofs.Common.{refl}
use Rattle.sqlite_trees.proofs.Doubt.{no_doubt}
use Rattle.session_files.proofs.memory.memory_is_clean.Goals as goal

pub returns : goal.returns
returns c desk = no_doubt _ refl
