use Rattle.std.proofs.Common.{ap, sym, ◌∙◌, Some}
use Rattle.mail_boxes.specs.Boxes.{groups}
use Rattle.mail_boxes.proofs.SplitLemmas.{fresh}
use Rattle.mail_boxes.proofs.splitter.MessageSplitter.begin.Goals as goal

pub returns : goal.returns
returns c = λ lines. rw (sym c.is_separator.ensures ∙ c.if-not-is_separator.false, c.new.ensures.items) (ap Some (fresh (groups _ lines)))
