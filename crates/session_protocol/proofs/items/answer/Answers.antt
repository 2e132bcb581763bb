use Rattle.std.proofs.Common.{ap}
use Rattle.session_protocol.specs.LineRequests.{request_view}
use Rattle.session_protocol.specs.Commands.{command_of}
use Rattle.session_protocol.specs.Session.{Call, start_by_request}
use Rattle.session_protocol.proofs.items.answer.Goals as goal

pub returns-in-Alone-clause-reaction : goal.returns-in-Alone-clause-reaction
returns-in-Alone-clause-reaction g c = (
  Call (command_of c.in-Alone.command),
  c.do_alone.ensures,
  λ t.
      ap (λ r. start_by_request (request_view r) (g.S.Source.left c.args.source.now)) c.in-Alone.is,
)
