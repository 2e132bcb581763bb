use Rattle.std.proofs.Common.{◌*◌, ◌∙◌, ap}
use Rattle.cli_changes.proofs.DayLaws.{number_kept}
use Rattle.cli_changes.proofs.import.start_of.Goals as goal

pub returns : goal.returns
returns c = λ n small is.
    let read = number_kept c.args.day c.day_number.result c.day_number.ensures.number ∙ is in
    ap (λ k. k * 86400) (c.from.ensures ∙ c.small_day-number.ensures.day n small read)
