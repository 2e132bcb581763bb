use Rattle.std.proofs.Common.{◌++◌, ◌∙◌, ap, codes, option_map}
use Rattle.class_plan.specs.Plans.{is_open_in, schedule_at}
use Rattle.cli_page.specs.Reports.{basis_below, open_word, plan_cells, schedule_words}
use Rattle.cli_page.proofs.PushLemmas.{pushed_6}
use Rattle.cli_page.proofs.summary.push_plan_cells.Goals as goal

pub returns : goal.returns
unfolding plan_cells
returns c =
    let plan = c.args.plan.now in
    let path = c.args.path.now in
    let word = c.in_ok-markup-3.ensures ∙ ap (λ w. c.markup-2.new.self ++ w) (c.open_word.ensures ∙ ap open_word c.is_open.ensures) in
    pushed_6 c.args.page.now c.markup.new.self c.push_schedule_of.new.page c.push_basis.new.page c.markup-2.new.self c.markup-3.new.self
    c.markup-4.new.self (codes "<td>") (schedule_words (schedule_at plan path))
    (basis_below (option_map (λ t. t.now) c.args.title)) (codes "</td><td>") (open_word (is_open_in plan path)) (codes "</td>")
    c.in_ok-markup.ensures c.in_ok-push_schedule_of.ensures c.in_ok-push_basis.ensures c.in_ok-markup-2.ensures word
    c.in_ok-markup-4.ensures
