use Rattle.std.proofs.Common.{◌++◌, ap, ◌∙◌}
use Rattle.mail_words.specs.Unfolding.{without_line_ends, without_outer_blanks}
use Rattle.mail_words.specs.Value.{display_of_text}
use Rattle.mail_words.proofs.DecidedLemmas.{shown_from}
use Rattle.mail_words.proofs.value.value_of.Goals as goal

pub returns-clause-spans : goal.returns-clause-spans
returns-clause-spans c =
    shown_from (without_outer_blanks (without_line_ends c.args.raw.now)) c.append_shown.new.shown.items
    (c.in_ok-append_shown.ensures
    ∙ ap (λ xs. xs ++ display_of_text (without_line_ends c.trim-text.result.now)) c.in_ok-shown.ensures.items
    ∙ ap display_of_text c.trim-text.ensures)
