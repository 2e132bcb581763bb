use Rattle.std.proofs.Common.{sym, ◌∙◌}
use Rattle.mail_boxes.proofs.SplitLemmas.{cut, grows}
use Rattle.mail_boxes.proofs.splitter.MessageSplitter.feed.Goals as goal

pub returns-then-is_ended_by : goal.returns-then-is_ended_by
returns-then-is_ended_by c = λ lines.
    rw (c.begin_next.ensures.before, c.begin_next.ensures.next)
    (cut c.args.self.now c.args.line.now lines (sym c.is_ended_by.ensures ∙ c.if-is_ended_by.true))

pub returns : goal.returns
returns c = λ lines.
    rw c.in_ok-take_line.ensures (grows c.args.self.now c.args.line.now lines (sym c.is_ended_by.ensures ∙ c.if-is_ended_by.false))
