use Rattle.mail_head.proofs.LineLemmas.{line_len_found, line_len_unfound}
use Rattle.mail_boxes.proofs.judging.first_line_len.Goals as goal

pub returns-in-Some-clause-value : goal.returns-in-Some-clause-value
returns-in-Some-clause-value c = line_len_found c.args.text.now c.in-Some.place c.in-Some.ensures

pub returns-in-None-clause-value : goal.returns-in-None-clause-value
returns-in-None-clause-value c = line_len_unfound c.args.text.now c.in-None.ensures
