use Rattle.std.proofs.Common.{codes}
use Rattle.jiff.specs.Words.{date_text}
use Rattle.cli_page.specs.DueLists.{section_head}
use Rattle.cli_page.proofs.PushLemmas.{pushed_3}
use Rattle.cli_page.proofs.due_list.open_section.Goals as goal

pub returns : goal.returns
unfolding section_head
returns c =
    pushed_3 c.args.page.now c.markup.new.self c.date.new.self c.markup-2.new.self
    (codes "<section aria-labelledby=\"due\" class=\"due\">\n<h2 id=\"due\">Due by ") (date_text c.args.day) (codes ", for signature</h2>\n")
    c.in_ok-markup.ensures c.in_ok-date.ensures c.in_ok-markup-2.ensures
