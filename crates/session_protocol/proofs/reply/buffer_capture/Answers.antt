use Rattle.std.specs.Prelude.{map}
use Rattle.record_archive.specs.Lines.{line_view}
use Rattle.session_protocol.specs.Replies.{records_octets}
use Rattle.session_protocol.proofs.Adding.{adds_after, adds_short}
use Rattle.session_protocol.proofs.reply.buffer_capture.Goals as goal

pub returns-in_err-buffer_faults : goal.returns-in_err-buffer_faults
returns-in_err-buffer_faults g c =
    adds_short c.from_residual.result (records_octets (map line_view c.args.capture.now.lines.items)) c.from_residual.ensures.0
    c.in_err-buffer_faults.ensures

pub returns : goal.returns
returns g c = adds_after c.in_ok-buffer_faults.ensures (rw c.as_slice.ensures.value at c.buffer_records.ensures)
