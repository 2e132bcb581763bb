use Rattle.std.proofs.Common.{subst}
use Rattle.std.proofs.lemmas.Result.{IfOk-weaker}
use Rattle.clap.specs.Simple.{HasMatchesOf}
use Rattle.command_lines.specs.Typed.{typed}
use Rattle.command_lines.proofs.ToolLemmas.{command_typed}
use Rattle.command_lines.proofs.tools.read_command.Goals as goal

pub returns : goal.returns
returns c plain =
    IfOk-weaker c.read_matches.result _ _ (λ command is. command_typed (typed c.args.words.now) c.in_ok-matches.matches command
    (subst (λ app. HasMatchesOf app (typed c.args.words.now) c.in_ok-matches.matches) c.in_ok-program.ensures
    (c.in_ok-matches.ensures (c.values_typed.ensures plain))) is) c.read_matches.ensures
