use Rattle.mail_head.proofs.LineLemmas.{header_says}
use Rattle.mail_head.proofs.lines.header_ends.Goals as goal

pub returns-clause-over : goal.returns-clause-over
returns-clause-over c =
    (header_says c.args.rest.now c.line_text.result.now c.first_line_len.result c.is_empty.result
    c.first_line_len.ensures.value c.line_text.ensures.value c.is_empty.ensures).ends

pub returns-clause-goes_on : goal.returns-clause-goes_on
returns-clause-goes_on c =
    (header_says c.args.rest.now c.line_text.result.now c.first_line_len.result c.is_empty.result
    c.first_line_len.ensures.value c.line_text.ensures.value c.is_empty.ensures).goes_on
