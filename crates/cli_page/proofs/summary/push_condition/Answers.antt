use Rattle.std.proofs.Common.{codes}
use Rattle.cli_page.specs.Pages.{text_piece}
use Rattle.cli_page.specs.Reports.{condition_fact}
use Rattle.cli_page.proofs.PushLemmas.{pushed_3}
use Rattle.cli_page.proofs.summary.push_condition.Goals as goal

pub returns : goal.returns
unfolding condition_fact
returns c =
    pushed_3 c.args.page.now c.markup.new.self c.text.new.self c.markup-2.new.self (codes "<dt>Only records with</dt><dd>")
    (text_piece c.args.conditions.now) (codes "</dd>\n") c.in_ok-markup.ensures c.in_ok-text.ensures c.in_ok-markup-2.ensures
