use Rattle.std.proofs.Common.{ap, ◌∙◌}
use Rattle.mail_words.specs.Unfolding.{without_last_blanks}
use Rattle.mail_words.proofs.unfolding.trim.Goals as goal

pub returns : goal.returns
returns c = c.trim_end.ensures ∙ ap without_last_blanks c.trim_start.ensures
