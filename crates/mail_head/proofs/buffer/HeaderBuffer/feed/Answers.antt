use Rattle.mail_head.proofs.ReaderLemmas.{fed}
use Rattle.mail_head.proofs.buffer.HeaderBuffer.feed.Goals as goal

pub returns-clause-fed : goal.returns-clause-fed
returns-clause-fed c = λ message e.
    fed c.args.self.now c.add.new.self message c.args.piece.now c.in_ok-part.part e c.in_ok-part.ensures.part
    (rw c.in_ok-part.ensures.ok at c.in_ok-add.ensures.ok)
