use Rattle.std.proofs.Common.{◌∙◌, ap, sym, option_map, pos, arith}
use Rattle.jiff.specs.Words.{epoch_day}
use Rattle.jiff_core.proofs.SignedLemmas.{signed_arith}
use Rattle.cli_texts.proofs.DueLemmas.{counted, later_by_number, number_kept}
use Rattle.cli_texts.proofs.plans.due_by.Goals as goal

pub returns-in-Some-clause-due : goal.returns-in-Some-clause-due
returns-in-Some-clause-due c =
    let day = c.in-Some.day in
    let number = c.day_number-number.ensures.number in
    let kept = number_kept c.args.day c.day_number-number.result number in
    let between = c.in-Some.ensures.date.0 in
    let low = between.0 in
    let high = c.if-number-gt-LAST_DAY.false in
    let is_counted = counted c.args.plan.now c.args.path.now day (epoch_day c.args.day) (c.in-Some.ensures.date.1 ∙ kept)
    (omega (arith, signed_arith, low, kept)) (omega (arith, signed_arith, number, high)) in
    later_by_number day c.due_of.result c.due_of.ensures.later ∙ ap (option_map pos) (c.due_of.ensures.number ∙ sym is_counted)
