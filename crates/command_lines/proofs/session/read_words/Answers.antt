use Rattle.std.proofs.Common.{◌∙◌, subst}
use Rattle.std.proofs.lemmas.Result.{IfOk-weaker}
use Rattle.clap.specs.Simple.{HasMatchesOf}
use Rattle.command_lines.specs.Typed.{typed}
use Rattle.command_lines.proofs.SessionLemmas.{session_value}
use Rattle.command_lines.proofs.session.read_words.Goals as goal

pub returns-in-Ok : goal.returns-in-Ok
returns-in-Ok c =
    IfOk-weaker c.options_in.result _ _ (λ line is. is ∙ session_value (typed c.args.words.now) c.in-Ok.matches
    (subst (λ app. HasMatchesOf app (typed c.args.words.now) c.in-Ok.matches) c.in_ok-command.ensures c.in-Ok.ensures.matches))
    c.options_in.ensures
