use Rattle.std.proofs.Common.{Ok, take}
use Rattle.std.specs.Prelude.{flat_map}
use Rattle.session_protocol.specs.Replies.{line_octets}
use Rattle.session_protocol.specs.Written.{Adds}
use Rattle.session_protocol.proofs.reply.buffer_list.Given as goal

abbrev pub invariant-loop-line : goal.invariant-loop-line
invariant-loop-line g l = Adds g.K.Sink (Ok tt) l.fn.sink l.fn.buffer (flat_map line_octets (take l.line-index l.lines)) l.sink l.buffer
