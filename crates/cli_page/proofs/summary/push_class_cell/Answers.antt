use Rattle.std.proofs.Common.{codes, option_map}
use Rattle.cli_page.specs.Reports.{class_cell}
use Rattle.cli_page.specs.Titles.{path_and_title}
use Rattle.cli_page.proofs.PushLemmas.{pushed_3}
use Rattle.cli_page.proofs.summary.push_class_cell.Goals as goal

pub returns : goal.returns
unfolding class_cell
returns c =
    pushed_3 c.args.page.now c.markup.new.self c.push_path.new.page c.markup-2.new.self (codes "<tr><th scope=\"row\">")
    (path_and_title c.args.path.now (option_map (λ t. t.now) c.args.title)) (codes "</th>") c.in_ok-markup.ensures
    c.in_ok-push_path.ensures c.in_ok-markup-2.ensures
