use Rattle.mail_words.proofs.SpanLemmas.{words_apart}
use Rattle.mail_words.proofs.laws.words_stand_apart.Goals as goal

pub returns : goal.returns
returns c = words_apart
