use Rattle.std.proofs.Common.{codes}
use Rattle.std.proofs.lemmas.Result.{on_ok_weaker}
use Rattle.cli_page.specs.Timelines.{row_head, years_words}
use Rattle.cli_page.proofs.PushLemmas.{pushed_3}
use Rattle.cli_page.proofs.timeline.push_row_head.Goals as goal

pub returns : goal.returns
unfolding row_head
returns c =
    on_ok_weaker c.markup-2.result
    (pushed_3 c.args.page.now c.markup.new.self c.push_span.new.page c.markup-2.new.self
    (codes "<tr><th scope=\"row\">") (years_words c.args.column.now) (codes "</th>")
    c.in_ok-markup.ensures c.in_ok-push_span.ensures) c.markup-2.ensures
