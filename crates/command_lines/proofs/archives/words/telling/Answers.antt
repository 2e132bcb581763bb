use Rattle.std.proofs.Common.{refl}
use Rattle.command_lines.proofs.archives.words.telling.Goals as goal

pub returns : goal.returns
returns c = λ shared. refl
