use Rattle.mail_head.proofs.SpanLemmas.{fields_law}
use Rattle.mail_head.proofs.laws.fields_are_decided.Goals as goal

pub returns : goal.returns
returns c = fields_law
