use Rattle.std.proofs.Common.{◌≡◌, length}
use Rattle.std.specs.List.{list_all}
use Rattle.mail_words.specs.Unfolding.{is_blank, without_line_ends}
use Rattle.mail_words.proofs.unfolding.is_all_blank.Given as goal

abbrev pub invariant-loop-octet : goal.invariant-loop-octet
invariant-loop-octet l = list_all is_blank (without_line_ends l.rest) ≡ list_all is_blank (without_line_ends l.text)

abbrev pub decreases-loop-octet : goal.decreases-loop-octet
decreases-loop-octet l = length (without_line_ends l.rest)
