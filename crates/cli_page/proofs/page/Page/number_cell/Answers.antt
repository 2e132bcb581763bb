use Rattle.std.proofs.Common.{codes, decimal}
use Rattle.cli_page.specs.Pages.{number_cell_piece}
use Rattle.cli_page.proofs.PushLemmas.{pushed_3}
use Rattle.cli_page.proofs.page.Page.number_cell.Goals as goal

pub returns : goal.returns
unfolding number_cell_piece
returns c =
    pushed_3 c.args.self.now c.markup.new.self c.number.new.self c.markup-2.new.self
    (codes "<td class=\"n\">") (decimal c.args.number) (codes "</td>")
    c.in_ok-markup.ensures c.in_ok-number.ensures c.in_ok-markup-2.ensures
