use Rattle.std.proofs.Common.{refl}
use Rattle.mail_words.specs.Unfolding.{without_line_ends}
use Rattle.mail_words.proofs.value.shown_gap.Goals as goal

pub returns-then-is_all_blank : goal.returns-then-is_all_blank
unfolding without_line_ends
returns-then-is_all_blank c = rw (c.if-after_good.true, ← c.is_all_blank.ensures, c.if-is_all_blank.true) refl
