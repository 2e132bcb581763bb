use Rattle.promises.proofs.ReadWords.{read_law}
use Rattle.promises.proofs.reading.checked_scripts_are_read.Goals as goal

pub returns : goal.returns
returns c = read_law
