use Rattle.std.proofs.Common.{codes}
use Rattle.cli_page.specs.Indexes.{history_link}
use Rattle.cli_page.specs.Names.{history_name}
use Rattle.cli_page.proofs.PushLemmas.{pushed_5}
use Rattle.cli_page.proofs.index.push_history.Goals as goal

pub returns : goal.returns
unfolding history_link
returns c =
    let name = history_name c.args.volume in
    pushed_5 c.args.page.now c.markup.new.self c.history_name.new.self c.markup-2.new.self c.history_name-2.new.self c.markup-3.new.self
    (codes "<a href=\"") name (codes "\">") name (codes "</a>")
    c.in_ok-markup.ensures c.in_ok-history_name.ensures c.in_ok-markup-2.ensures c.in_ok-history_name-2.ensures c.in_ok-markup-3.ensures
