use Rattle.std.proofs.Common.{arith}
use Rattle.session_protocol.specs.Replies.{line_octets}
use Rattle.session_protocol.proofs.Adding.{adds_all, adds_cut, adds_next, adds_nothing}
use Rattle.session_protocol.proofs.reply.buffer_list.Goals as goal

pub loop-line-init : goal.loop-line-init
loop-line-init g c = adds_nothing _ _

pub loop-line-preserved : goal.loop-line-preserved
loop-line-preserved g c =
    adds_next line_octets c.args.lines.now c.loop-line.line-index c.line-item.result (omega arith) c.loop-line.invariant
    (rw c.line-item.is at c.in_ok-buffer_record.ensures)

pub returns-in_err-buffer_record : goal.returns-in_err-buffer_record
returns-in_err-buffer_record g c =
    adds_cut line_octets c.args.lines.now c.loop-line.line-index c.from_residual.result c.line-item.result (omega arith)
    c.from_residual.ensures.0 c.loop-line.invariant (rw c.line-item.is at c.in_err-buffer_record.ensures)

pub returns : goal.returns
returns g c = adds_all line_octets c.args.lines.now c.loop-line.line-index (omega arith) c.loop-line.invariant
