use Rattle.std.proofs.Common.{sym, ap, ◌∙◌, arith}
use Rattle.mail_boxes.proofs.LineLemmas.{no_lines, split_lines}
use Rattle.mail_boxes.proofs.judging.first_line.Goals as goal

pub returns-then-is_empty-clause-lines : goal.returns-then-is_empty-clause-lines
returns-then-is_empty-clause-lines c = no_lines c.args.text.now (sym c.is_empty.ensures ∙ c.if-is_empty.true)

pub returns-clause-lines : goal.returns-clause-lines
returns-clause-lines c =
    split_lines c.args.text.now c.first_line_len.result c.split_at.result.0.now c.split_at.result.1.now
    (sym c.is_empty.ensures ∙ c.if-is_empty.false) c.first_line_len.ensures.value c.split_at.ensures.front c.split_at.ensures.back
