use Rattle.std.proofs.Common.{sym, ◌∙◌}
use Rattle.mail_head.proofs.ReaderLemmas.{part_open, part_ended}
use Rattle.mail_head.proofs.buffer.HeaderBuffer.next_part.Goals as goal

pub returns-then-len-self-clause-part : goal.returns-then-len-self-clause-part
returns-then-len-self-clause-part c =
    rw (← c.self.view_is) (part_open _ c.args.piece.now c.header_part.result (sym (c.len.ensures
    ∙ c.self.inside.kept.ok.0) ∙ c.if-len-self.true) (rw c.as_slice.ensures.value at c.header_part.ensures))

pub returns-clause-part : goal.returns-clause-part
returns-clause-part c =
    rw (← c.self.view_is) (part_ended _ c.args.piece.now (λ same. c.if-len-self.false (c.len.ensures ∙ c.self.inside.kept.ok.0 ∙ same)))
