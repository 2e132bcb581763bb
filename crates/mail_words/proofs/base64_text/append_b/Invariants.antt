use Rattle.std.proofs.Common.{length}
use Rattle.mail_words.specs.Unfolding.{without_line_ends}
use Rattle.mail_words.proofs.Base64Lemmas.{Decoding}
use Rattle.mail_words.proofs.base64_text.append_b.Given as goal

abbrev pub invariant-groups : goal.invariant-groups
invariant-groups l = Decoding l.charset (without_line_ends l.text) (without_line_ends l.rest) l.fn.shown.items l.shown.items

abbrev pub decreases-groups : goal.decreases-groups
decreases-groups l = length (without_line_ends l.rest)
