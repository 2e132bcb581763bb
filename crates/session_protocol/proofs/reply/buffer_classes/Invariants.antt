use Rattle.std.proofs.Common.{Ok, take}
use Rattle.std.specs.Prelude.{flat_map}
use Rattle.session_protocol.specs.Replies.{class_octets}
use Rattle.session_protocol.specs.Written.{Adds}
use Rattle.session_protocol.proofs.reply.buffer_classes.Given as goal

abbrev pub invariant-loop-path : goal.invariant-loop-path
invariant-loop-path g l = Adds g.K.Sink (Ok tt) l.fn.sink l.fn.buffer (flat_map class_octets (take l.path-index l.paths)) l.sink l.buffer
