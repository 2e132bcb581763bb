use Rattle.std.proofs.Common.{codes, decimal}
use Rattle.cli_page.specs.DueLists.{free_words}
use Rattle.cli_page.proofs.PushLemmas.{pushed_3}
use Rattle.cli_page.proofs.due_list.push_free.Goals as goal

pub returns : goal.returns
unfolding free_words
returns c =
    pushed_3 c.args.page.now c.markup.new.self c.number.new.self c.markup-2.new.self
    (codes ", of which ") (decimal c.args.count)
    (codes " may be destroyed.</p>\n<p>A record may be destroyed from the day on which it is due, that day included.</p>\n")
    c.in_ok-markup.ensures c.in_ok-number.ensures c.in_ok-markup-2.ensures
