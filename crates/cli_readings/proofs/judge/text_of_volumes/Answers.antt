use Rattle.std.proofs.Common.{◌∙◌, ◌++◌, ap, ap₂, codes}
use Rattle.cli_readings.specs.Checks.{count_line, totals_text}
use Rattle.cli_readings.proofs.judge.text_of_volumes.Goals as goal

pub returns : goal.returns
returns c =
    let e1 = c.in_ok-put_count.ensures ∙ ap₂ (λ t n. t ++ count_line (codes "volumes ") n) c.new-text.ensures c.from.ensures in
    c.in_ok-put_totals.ensures ∙ ap (λ t. t ++ totals_text c.args.totals.now) e1
