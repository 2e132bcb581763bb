use Rattle.std.proofs.Common.{◌∙◌}
use Rattle.mail_words.proofs.CharsetLemmas.{utf8_test}
use Rattle.mail_words.proofs.charset.is_text.Goals as goal

pub returns : goal.returns
returns c = c.is_ok.ensures.value ∙ utf8_test c.args.octets.now _ _ c.from_utf8.result c.from_utf8.ensures.cases
