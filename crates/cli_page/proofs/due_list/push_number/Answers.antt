use Rattle.std.proofs.Common.{codes}
use Rattle.cli_texts.specs.Rows.{number_field}
use Rattle.cli_page.specs.DueLists.{number_head}
use Rattle.cli_page.proofs.PushLemmas.{pushed_3}
use Rattle.cli_page.proofs.due_list.push_number.Goals as goal

pub returns : goal.returns
unfolding number_head
returns c =
    pushed_3 c.args.page.now c.markup.new.self c.record_number.new.self c.markup-2.new.self
    (codes "<th scope=\"row\" class=\"n\">") (number_field c.args.volume c.args.number) (codes "</th><td>")
    c.in_ok-markup.ensures c.in_ok-record_number.ensures c.in_ok-markup-2.ensures
