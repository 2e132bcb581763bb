use Rattle.mail_words.proofs.MeaningLemmas.{meaning_law}
use Rattle.mail_words.proofs.laws.meaning_is_decided.Goals as goal

pub returns : goal.returns
returns c = meaning_law
