use Rattle.std.proofs.Common.{◌∙◌}
use Rattle.mail_charsets.proofs.Utf8Lemmas.{utf8_test}
use Rattle.mail_charsets.proofs.decoding.is_well_formed.Goals as goal

pub returns : goal.returns
returns c = c.is_ok.ensures.value ∙ utf8_test c.args.octets.now _ _ c.from_utf8.result c.from_utf8.ensures.cases
