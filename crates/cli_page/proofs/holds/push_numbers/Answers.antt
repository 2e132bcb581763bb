use Rattle.std.proofs.Common.{codes}
use Rattle.cli_page.specs.KeptNumbers.{numbers_cell, stretches_text}
use Rattle.cli_page.proofs.PushLemmas.{pushed_3}
use Rattle.cli_page.proofs.holds.push_numbers.Goals as goal

pub returns : goal.returns
unfolding numbers_cell
returns c =
    pushed_3 c.args.page.now c.markup.new.self c.push_stretches.new.page c.markup-2.new.self
    (codes "<td>") (stretches_text c.args.stretches.now) (codes "</td></tr>\n")
    c.in_ok-markup.ensures c.in_ok-push_stretches.ensures c.in_ok-markup-2.ensures
