use Rattle.std.proofs.Common.{◌∙◌, ◌++◌, ◌+◌, ap, ap₂, codes}
use Rattle.cli_readings.specs.Checks.{count_line, totals_of, totals_text}
use Rattle.cli_readings.proofs.judge.text_of.Goals as goal

pub returns : goal.returns
returns c =
    let totals = totals_of c.args.figures.now c.args.messages.now in
    let e1 = c.in_ok-put_count.ensures ∙ ap (λ t. t ++ count_line (codes "classes ") c.args.classes) c.new-text.ensures in
    let e2 = c.in_ok-put_totals.ensures ∙ ap₂ (λ t s. t ++ totals_text s) e1 c.of-totals.ensures in
    c.in_ok-put_count-2.ensures ∙ ap₂ (λ t n. t ++ count_line (codes "next number ") (n + 1)) e2 c.from-next.ensures
