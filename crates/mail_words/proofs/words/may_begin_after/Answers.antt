use Rattle.std.proofs.Common.{true, sym, ap, ◌∙◌}
use Rattle.mail_words.specs.Unfolding.{without_line_ends}
use Rattle.mail_words.specs.Spans.{may_stand_after}
use Rattle.mail_words.proofs.WordLemmas.{may_stand-last}
use Rattle.mail_words.proofs.words.may_begin_after.Goals as goal

pub returns-in-Some : goal.returns-in-Some
returns-in-Some c = c.may_precede.ensures
    ∙ sym (ap (may_stand_after true) c.in-Some.ensures
    ∙ may_stand-last (without_line_ends c.in-Some.field-0-0.now) c.in-Some.octet)
