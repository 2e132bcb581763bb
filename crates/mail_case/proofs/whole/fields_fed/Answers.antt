use Rattle.mail_case.proofs.ValueLemmas.{fields_fed_is}
use Rattle.mail_case.proofs.whole.fields_fed.Goals as goal

pub returns-clause-fields : goal.returns-clause-fields
returns-clause-fields c = λ message e.
    fields_fed_is c.in_ok-fields.fields c.in_ok-octets.octets.now c.args.buffer.now message c.in_ok-fields.ensures c.in_ok-octets.ensures.octets e
