use Rattle.session_protocol.proofs.Adding.{writes_flushed, writes_short}
use Rattle.session_protocol.proofs.reply.write_reply.Goals as goal

pub returns-in_err-buffer_reply-clause-writes : goal.returns-in_err-buffer_reply-clause-writes
returns-in_err-buffer_reply-clause-writes g c =
    writes_short c.from_residual.result c.from_residual.ensures.0 (rw c.requires at c.in_err-buffer_reply.ensures)

pub returns-clause-writes : goal.returns-clause-writes
returns-clause-writes g c = writes_flushed (rw c.requires at c.in_ok-buffer_reply.ensures) c.flush.ensures.writes
