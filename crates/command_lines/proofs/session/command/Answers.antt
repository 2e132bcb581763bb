use Rattle.std.proofs.Common.{refl}
use Rattle.std.proofs.lemmas.Result.{IfOk-weaker}
use Rattle.command_lines.proofs.SessionLemmas.{session_app_of}
use Rattle.command_lines.proofs.session.command.Goals as goal

pub returns : goal.returns
returns c =
    IfOk-weaker c.args-2.result _ _ (λ r adds.
    session_app_of c.in_ok-bare_command.field-0 r c.in_ok-arguments.arguments.items c.in_ok-bare_command.ensures adds
    (c.in_ok-arguments.ensures refl)) c.args-2.ensures
