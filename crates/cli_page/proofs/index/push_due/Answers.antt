use Rattle.std.proofs.Common.{codes}
use Rattle.std.proofs.lemmas.Result.{on_ok_weaker}
use Rattle.cli_page.specs.Indexes.{due_cell, due_words}
use Rattle.cli_page.proofs.PushLemmas.{pushed_3}
use Rattle.cli_page.proofs.index.push_due.Goals as goal

pub returns : goal.returns
unfolding due_cell
returns c =
    on_ok_weaker c.markup-2.result
    (pushed_3 c.args.page.now c.markup.new.self c.push_due_words.new.page c.markup-2.new.self
    (codes "</td><td class=\"d\">") (due_words c.args.is_destroyed c.args.due) (codes "</td>")
    c.in_ok-markup.ensures c.in_ok-push_due_words.ensures) c.markup-2.ensures
