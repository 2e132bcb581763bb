use Rattle.session_protocol.specs.Commands.{one_command}
use Rattle.session_protocol.specs.Session.{Call}
use Rattle.session_protocol.proofs.PayloadLemmas.{one_heard}
use Rattle.session_protocol.proofs.items.answer_one.Goals as goal

pub returns-clause-reaction : goal.returns-clause-reaction
returns-clause-reaction g c =
    let read = rw c.in-Some.is at c.in_ok-payload.ensures.octets in (
      Call (one_command c.args.command read.0),
      c.do_one.ensures read.0 (rw (← c.limit_of_one.ensures) read.1.1),
      λ t. one_heard c.args.size (one_command c.args.command) read.0 _ _ (read.2 t),
    )
