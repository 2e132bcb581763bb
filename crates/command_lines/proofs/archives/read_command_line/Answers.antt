use Rattle.std.proofs.Common.{subst}
use Rattle.std.proofs.lemmas.Result.{IfOk-weaker}
use Rattle.clap.specs.Simple.{HasMatchesOf}
use Rattle.command_lines.specs.Typed.{typed}
use Rattle.command_lines.proofs.StoreLemmas.{line_typed}
use Rattle.command_lines.proofs.archives.read_command_line.Goals as goal

pub returns-in-Ok : goal.returns-in-Ok
returns-in-Ok c = record {
  read = IfOk-weaker c.read_matches.result _ _ (λ line is. (c.in-Ok.matches, is)) c.read_matches.ensures;
  typed = λ plain. IfOk-weaker c.read_matches.result _ _ (λ line is.
      line_typed (typed c.args.words.now) c.in-Ok.matches line
      (subst (λ app. HasMatchesOf app (typed c.args.words.now) c.in-Ok.matches) c.in_ok-program.ensures
      (c.in-Ok.ensures (c.values_typed.ensures plain))) is) c.read_matches.ensures;
}
