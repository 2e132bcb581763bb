use Rattle.std.proofs.Common.{refl}
use Rattle.command_lines.proofs.tools.words.subcommands.Goals as goal

pub returns : goal.returns
returns c = λ shared. refl
