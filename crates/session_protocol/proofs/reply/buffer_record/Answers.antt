use Rattle.std.proofs.Common.{◌++◌}
use Rattle.std.specs.Prelude.{codes, option_map}
use Rattle.jiff.specs.Words.{epoch_day}
use Rattle.session_protocol.specs.Dates.{due_octets}
use Rattle.session_protocol.proofs.Adding.{adds_after, adds_short}
use Rattle.session_protocol.proofs.reply.buffer_record.Goals as goal

pub returns-in_err-buffer_head : goal.returns-in_err-buffer_head
returns-in_err-buffer_head g c =
    adds_short c.from_residual.result (due_octets (option_map epoch_day c.args.line.now.due) ++ codes "\n") c.from_residual.ensures.0
    (rw c.as_slice.ensures.value at c.in_err-buffer_head.ensures)

pub returns : goal.returns
returns g c = adds_after (rw c.as_slice.ensures.value at c.in_ok-buffer_head.ensures) c.buffer_due.ensures
