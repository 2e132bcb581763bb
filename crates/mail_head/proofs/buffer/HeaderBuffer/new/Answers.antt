use Rattle.std.proofs.Common.{refl}
use Rattle.mail_head.specs.Lines.{raw_lines, header_lines}
use Rattle.mail_head.proofs.buffer.HeaderBuffer.new.Goals as goal

pub returns : goal.returns
unfolding raw_lines header_lines
returns c = rw c.new.ensures.items refl
