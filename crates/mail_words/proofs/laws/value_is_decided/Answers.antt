use Rattle.mail_words.proofs.DecidedLemmas.{shown_law}
use Rattle.mail_words.proofs.laws.value_is_decided.Goals as goal

pub returns : goal.returns
returns c = shown_law
