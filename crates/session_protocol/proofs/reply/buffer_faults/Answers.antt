use Rattle.std.proofs.Common.{ap, sym}
use Rattle.session_protocol.specs.Replies.{faults_octets}
use Rattle.session_protocol.proofs.Adding.{adds_nothing, adds_same}
use Rattle.session_protocol.proofs.reply.buffer_faults.Goals as goal

pub returns-in-None : goal.returns-in-None
returns-in-None g c = adds_same (ap faults_octets (sym c.in-None.is)) (adds_nothing _ _)
