use Rattle.mail_case.proofs.ValueLemmas.{start_from-zero, start_from-before}
use Rattle.mail_case.proofs.fields.start_of.Goals as goal

pub returns-then-place-eq0 : goal.returns-then-place-eq0
returns-then-place-eq0 c = rw c.if-place-eq0.true (start_from-zero c.args.ends.now)

pub returns : goal.returns
returns c = start_from-before c.args.ends.now c.args.place _ c.if-place-eq0.false c.requires
