use Rattle.std.proofs.Common.{codes}
use Rattle.jiff.specs.Words.{date_text}
use Rattle.cli_page.specs.DueLists.{day_cell}
use Rattle.cli_page.proofs.PushLemmas.{pushed_2}
use Rattle.cli_page.proofs.due_list.push_day.Goals as goal

pub returns : goal.returns
unfolding day_cell
returns c =
    pushed_2 c.args.page.now c.markup.new.self c.date.new.self
    (codes "</td><td class=\"d\">") (date_text c.args.day)
    c.in_ok-markup.ensures c.in_ok-date.ensures
