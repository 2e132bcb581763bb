use Rattle.std.proofs.Common.{rules, tests}
use Rattle.std.specs.Char.{is_whitespace}
use Rattle.std.proofs.lemmas.Iterator.{YieldsList-from_chars}
use Rattle.std.proofs.lemmas.Iterator.Search.{all_from_yields_List}
use Rattle.mail_display.specs.Comparing.{is_blank}
use Rattle.mail_display.proofs.comparing.is_blank.Goals as goal

pub returns : goal.returns
unfolding is_blank
returns c =
    all_from_yields_List is_whitespace _ _ _ c.all.ensures.ran (YieldsList-from_chars c.args.text.now c.utf8.text cc)
    (λ x b q k. search (rules, tests))
