use Rattle.session_protocol.specs.Replies.{classes_octets}
use Rattle.session_protocol.proofs.Adding.{adds_after, adds_short}
use Rattle.session_protocol.proofs.reply.buffer_outcome.Goals as goal

pub returns-in_err-buffer_faults : goal.returns-in_err-buffer_faults
returns-in_err-buffer_faults g c =
    adds_short c.from_residual.result (classes_octets c.args.outcome.now.classes) c.from_residual.ensures.0
    c.in_err-buffer_faults.ensures

pub returns : goal.returns
returns g c = adds_after c.in_ok-buffer_faults.ensures (rw c.as_slice.ensures at c.buffer_classes.ensures)
