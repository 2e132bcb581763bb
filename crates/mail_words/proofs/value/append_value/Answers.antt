use Rattle.std.proofs.Common.{length, ap, arith}
use Rattle.std.proofs.lemmas.List.{length-append}
use Rattle.mail_words.specs.Unfolding.{without_line_ends}
use Rattle.mail_words.specs.Value.{display_of_text, value_of_body}
use Rattle.mail_words.proofs.ShortLemmas.{length-value}
use Rattle.mail_words.proofs.value.append_value.Goals as goal

pub returns-clause-short : goal.returns-clause-short
unfolding value_of_body
returns-clause-short c =
    omega (
      arith,
      ap length (c.in_ok-append_shown.ensures),
      ap (λ x. length (display_of_text x)) c.trim.ensures,
      length-append c.args.shown.now.items (display_of_text (without_line_ends c.trim.result.now)),
      length-value c.args.raw.now,
    )
