use Rattle.session_protocol.specs.Commands.{two_command}
use Rattle.session_protocol.specs.Session.{Call}
use Rattle.session_protocol.proofs.PayloadLemmas.{both_heard}
use Rattle.session_protocol.proofs.items.answer_two.Goals as goal

pub returns-clause-reaction : goal.returns-clause-reaction
returns-clause-reaction g c =
    let read = rw c.in-Some.is at c.in_ok-first.ensures.octets in
    let command = two_command c.args.command in (
      Call (command read.0 read.1),
      c.do_two.ensures read.0 read.1 (rw (← c.limits_of_two-limits.ensures) read.2.1) (rw (← c.limits_of_two-limits.ensures) read.3.1),
      λ t. both_heard c.args.sizes command read.0 read.1 _ _ read.2.0 (read.4 t),
    )
