use Rattle.std.proofs.Common.{codes}
use Rattle.cli_page.specs.KeptNumbers.{hold_head}
use Rattle.cli_page.specs.Pages.{name_piece}
use Rattle.cli_page.proofs.PushLemmas.{pushed_3}
use Rattle.cli_page.proofs.holds.open_hold.Goals as goal

pub returns : goal.returns
unfolding hold_head
returns c =
    pushed_3 c.args.page.now c.markup.new.self c.name.new.self c.markup-2.new.self
    (codes "<tr><th scope=\"row\">") (name_piece c.args.name.now) (codes "</th>")
    c.in_ok-markup.ensures c.in_ok-name.ensures c.in_ok-markup-2.ensures
