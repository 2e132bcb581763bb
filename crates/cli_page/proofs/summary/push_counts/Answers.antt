use Rattle.cli_page.specs.Pages.{number_cell_piece}
use Rattle.cli_page.specs.Reports.{count_cells}
use Rattle.cli_page.proofs.PushLemmas.{pushed_5}
use Rattle.cli_page.proofs.summary.push_counts.Goals as goal

pub returns : goal.returns
unfolding count_cells
returns c =
    let n = c.args.counts.now in
    pushed_5 c.args.page.now c.number_cell.new.self c.number_cell-2.new.self c.number_cell-3.new.self c.number_cell-4.new.self
    c.number_cell-5.new.self (number_cell_piece n.records) (number_cell_piece n.live) (number_cell_piece n.held)
    (number_cell_piece n.destroyed) (number_cell_piece n.due) c.in_ok-number_cell.ensures c.in_ok-number_cell-2.ensures
    c.in_ok-number_cell-3.ensures c.in_ok-number_cell-4.ensures c.in_ok-number_cell-5.ensures
