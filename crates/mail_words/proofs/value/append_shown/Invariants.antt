use Rattle.std.proofs.Common.{◌++◌, length}
use Rattle.mail_words.specs.Unfolding.{without_line_ends}
use Rattle.mail_words.specs.Value.{display_of_text}
use Rattle.mail_words.proofs.ShownLemmas.{Showing}
use Rattle.mail_words.proofs.value.append_shown.Given as goal

abbrev pub invariant-loop-standing : goal.invariant-loop-standing
invariant-loop-standing l = Showing (l.initial.shown.items
    ++ display_of_text (without_line_ends l.text)) l.shown.items (without_line_ends l.rest) l.after_good

abbrev pub decreases-loop-standing : goal.decreases-loop-standing
decreases-loop-standing l = length (without_line_ends l.rest)
