use Rattle.session_protocol.proofs.Adding.{writes_fault}
use Rattle.session_protocol.proofs.buffer.flush.Goals as goal

pub returns-in_err-write_all-clause-writes : goal.returns-in_err-write_all-clause-writes
returns-in_err-write_all-clause-writes g c =
    writes_fault c.from_residual.result c.from_residual.ensures.0 (rw c.as_slice.ensures at c.in_err-write_all.ensures)
